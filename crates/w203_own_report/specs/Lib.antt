pub mod OwnReport
