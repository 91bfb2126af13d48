pub mod Cases
pub mod Chains
pub mod Arcs
pub mod Reciprocals
pub mod Priors
pub mod Steps
