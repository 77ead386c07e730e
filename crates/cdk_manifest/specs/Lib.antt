pub mod Manifest
pub mod ManifestLaws
pub mod Objects
pub mod TreeFile
pub mod TreeFileLaws
pub mod Values
