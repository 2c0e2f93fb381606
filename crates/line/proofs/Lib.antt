pub mod LineSpans
