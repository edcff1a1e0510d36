pub mod NewImage
pub mod ImageLaws
