-- What a listing of number 0 holds.
pub mod Listed
