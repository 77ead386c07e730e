pub mod ArtifactLemmas
pub mod CanonicalManifest
mod Examples
pub mod FileNames
pub mod FillLemmas
mod ManifestInstance
pub mod OneStack
pub mod ToldStacks
mod TreeFileInstance
pub mod TreeFileLaws
pub mod TreeLemmas
pub mod WholeManifest
