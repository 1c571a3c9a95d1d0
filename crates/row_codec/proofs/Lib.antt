pub mod ByteLemmas
pub mod PairLemmas
pub mod ValueLemmas
