-- The lemmas of `least_rank_owns_by_the_twelfth`: the AND of the addresses, and the slots after a SYN.
pub mod Anded
pub mod Between
pub mod Round
pub mod Twelfth
pub mod Word
