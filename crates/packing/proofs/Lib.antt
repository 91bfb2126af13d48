pub mod PieceLaws
pub mod PlaceLaws
