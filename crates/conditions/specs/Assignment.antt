-- 01, 'Conditions', of `diagrams`: "An assignment is a 64-bit number; bit v is variable v." In the laws it is a function of the variables.
unfoldable pub use Rattle.diagrams.specs.Assignment.{bit_at, change, some, number_of}
