pub mod FirstFaults
