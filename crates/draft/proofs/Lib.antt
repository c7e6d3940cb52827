pub mod Chains
pub mod Conjuncts
