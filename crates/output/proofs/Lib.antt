pub mod Spreads
pub mod Chunks
pub mod RowTexts
pub mod HeadedTexts
pub mod NodeRows
