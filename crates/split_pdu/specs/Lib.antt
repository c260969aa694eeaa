pub mod SplitPdu
