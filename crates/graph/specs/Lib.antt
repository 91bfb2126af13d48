pub mod Graph
pub mod Arcs
pub mod Configurations
