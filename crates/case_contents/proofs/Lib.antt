pub mod LayoutLaws
pub mod RoundTrip
pub mod RefusalLaws
pub mod PromiseLaws
