-- What a step answers, in the code's own struct.
pub mod Stepped
