-- What the proofs of other crates may cite.
unfoldable pub use Rattle.gf256.proofs.Finite.{each_below}
pub use Rattle.gf256.proofs.Finite.{passes_at}
pub use Rattle.gf256.proofs.Sums.{sum_lt, sum_swap, sum_twice, equal_from_sum}
pub use Rattle.gf256.proofs.Products.{product_lt, product_comm, product_assoc, product_sum, sum_product, product_one, one_product}
pub use Rattle.gf256.proofs.Products.{product_zero, zero_product, product_inverse, product_cancel, inverse_lt, inverse_unique}
pub use Rattle.gf256.proofs.Products.{product_some, no_divisors, product_double, double_product, double_lt, double_sum}
pub use Rattle.gf256.proofs.Powers.{power_lt, power_some, power_add, power_mod, power_injective}
pub use Rattle.gf256.proofs.RowSteps.{get_or-added_row}
unfoldable pub use Rattle.gf256.proofs.Horner.{horner}
pub use Rattle.gf256.proofs.Horner.{head_byte, tail_bytes, horner_lt, value_is_horner, value_lt, length-added_row, added_row_bytes, value-added_row}
pub use Rattle.gf256.proofs.Roots.{few_roots, equal_where_agree}
