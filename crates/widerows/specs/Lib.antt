pub mod WideRows
