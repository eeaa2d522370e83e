pub mod Records
pub mod Listed
pub mod Chains
pub mod Before
pub mod Walks
pub mod Chained
