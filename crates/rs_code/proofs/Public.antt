-- What the proofs of other crates may cite.
pub use Rattle.rs_code.proofs.Polynomials.{IsPolynomial}
pub use Rattle.rs_code.proofs.Interpolate.{ArePoints, powers_are_points, one_polynomial, polynomial_weighed, weighed_after}
pub use Rattle.rs_code.proofs.Interpolate.{weighed_is_value, interpolates, source_is_symbol}
pub use Rattle.rs_code.proofs.Weighing.{places_are_points, sum_same, weighed_more, weighed_value}
pub use Rattle.rs_code.proofs.UniqueWeights.{one_list}
pub use Rattle.rs_code.proofs.Unique.{symbol_unique}
pub use Rattle.rs_code.proofs.Cuts.{length-column, get_or-column, place_within, column_bytes}
