pub mod Cut
pub mod Key
pub mod Left
pub mod ListKey
pub mod Pieces
