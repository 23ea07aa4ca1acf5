pub mod PolicyFile
