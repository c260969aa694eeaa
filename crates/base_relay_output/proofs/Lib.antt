pub mod RelayOutput
