pub mod Picture
pub mod Book
