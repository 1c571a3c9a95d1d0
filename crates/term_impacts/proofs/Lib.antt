pub mod FoldingLemmas
pub mod FormLemmas
pub mod LabelLemmas
pub mod LeftLemmas
pub mod PaddingLemmas
pub mod PairsLemmas
pub mod TallyLemmas
pub mod TextLemmas
