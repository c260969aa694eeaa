pub mod StationsHeard
