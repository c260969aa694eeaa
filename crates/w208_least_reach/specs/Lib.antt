pub mod LeastReach
