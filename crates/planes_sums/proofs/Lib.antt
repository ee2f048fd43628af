pub mod MeasureLaws
pub mod WriteLaws
pub mod InsideLaws
pub mod AccumulatorLaws
