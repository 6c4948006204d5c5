-- How long objects are.
use Rattle.std.proofs.Common.{◌≡◌, ℕ, ◌+◌, ◌-◌, ◌*◌, ◌<◌, ◌≤◌, ◌^◌, Bool, true, false, List, [], ◌∷◌, ◌++◌, Option, Some, None, suc, inl, inr, length}
use Rattle.std.proofs.Common.{length-append, replicate, arith}
use Rattle.std.specs.Prelude.{map, unwrap_or}
use Rattle.std.specs.Int.{div_ceil}
use Rattle.std.specs.List.{join_with_byte, AllByRecursion}
use Rattle.std.specs.Fmt.{decimal}
use Rattle.std.proofs.lemmas.Fmt.{length-decimal-le, length-decimal-le_wide}
use Rattle.std.proofs.lemmas.List.{length-replicate}
use Rattle.std.proofs.lemmas.Bool.{cases_lt}
use Rattle.std.proofs.lemmas.Grind.{div_ceil_times}
use Rattle.std.proofs.Math.Nat.{mul-le-mul_left, mul-le-mul_right, le-mul_of_pos_right}
use Rattle.oti_blocks.specs.Partition.{IsSound, sources, blocks}
use Rattle.meta_text.specs.Fields.{Pair, line_of, written}
use Rattle.compound_object.specs.Object.{rounded, header_length_of, object_bytes}
use Rattle.carousel_cid.specs.KnownFields.{location_name, type_name, length_name, number_name}
use Rattle.carousel_cid.specs.IdentifierList.{comma}
use Rattle.carousel_cid.specs.File.{type_fields, file_fields, file_bytes}
use Rattle.carousel_cid.specs.Descriptor.{list_text, descriptor_bytes}
use Rattle.carousel_cid.proofs.Public.{length_line}
use Rattle.sender_plan.specs.declared.params.Params.{Params}
use Rattle.sender_plan.specs.Plan.{information}

rounded_bounds : (n : ℕ) → (n ≤ rounded n) × (rounded n ≤ n + 3)
rounded_bounds n = (omega arith, omega arith)

length_tail : (metadata body : List ℕ)
    → (length metadata + length body ≤ length (metadata ++ replicate (rounded (header_length_of metadata) - header_length_of metadata) 0 ++ body))
    × (length (metadata ++ replicate (rounded (header_length_of metadata) - header_length_of metadata) 0 ++ body) ≤ length metadata + length body + 3)
length_tail metadata body =
    let h = header_length_of metadata in
    let zeros : List ℕ = replicate (rounded h - h) 0 in
    let bounds = rounded_bounds h in
    let all = length-append (metadata ++ zeros) body in
    let rest = length-append metadata zeros in
    let fill = length-replicate {A = ℕ} (rounded h - h) 0 in
    (omega (arith, bounds.0, bounds.1, all, rest, fill), omega (arith, bounds.0, bounds.1, all, rest, fill))

length_object : (descriptor : Bool) (fields : List Pair) (body : List ℕ) → (8 ≤ length (object_bytes descriptor fields body))
    × (length (object_bytes descriptor fields body) ≤ length (written fields) + length body + 11)
length_object descriptor fields body =
    let tail = length_tail (written fields) body in
    (omega (arith, tail.0), omega (arith, tail.1))

length_texts : (ts : List ℕ) → AllByRecursion (λ toi. toi < 2 ^ 112) ts → length (join_with_byte comma (map decimal ts)) ≤ 35 * length ts
length_texts [] small = omega arith
length_texts (t ∷ []) small = omega (arith, length-decimal-le_wide 34 t (omega arith) (omega (arith, small.0)) (omega (arith, small.0)))
length_texts (t ∷ u ∷ ts) small =
    omega (
      arith,
      length-decimal-le_wide 34 t (omega arith) (omega (arith, small.0)) (omega (arith, small.0)),
      length-append (decimal t) (comma ∷ join_with_byte comma (map decimal (u ∷ ts))),
      length_texts (u ∷ ts) small.1,
    )

pub descriptor_length : (number : ℕ) (listed : List ℕ) → number < 2 ^ 32 → length listed ≤ 4096 → AllByRecursion (λ toi. toi < 2 ^ 112) listed
    → (8 ≤ length (descriptor_bytes number listed)) × (length (descriptor_bytes number listed) ≤ 150000)
unfolding descriptor_bytes
descriptor_length number listed fits few small =
    let fields : List Pair = (number_name, decimal number) ∷ [] in
    let digits = length-decimal-le 10 number (omega arith) (omega arith) (omega arith) in
    let line = length_line number_name (decimal number) in
    let metadata = length-append (line_of (number_name, decimal number)) [] in
    let list = length_texts listed small in
    let object = length_object true fields (list_text listed) in
    (object.0, omega (arith, object.1, digits, line, metadata, list))

length_kind : (kind : Option (List ℕ)) (rest : List Pair) → length (written (type_fields kind ++ rest)) ≤ 16 + length (unwrap_or kind []) + length (written rest)
length_kind None rest = omega arith
length_kind (Some kind) rest = omega (arith, length_line type_name kind, length-append (line_of (type_name, kind)) (written rest))

pub file_length : (location : List ℕ) (kind : Option (List ℕ)) (body : List ℕ) → length body ≤ 16777216 → length location + length (unwrap_or kind []) ≤ 16777216
    → (8 ≤ length (file_bytes location kind body)) × (length (file_bytes location kind body) ≤ 33554432 + 100)
unfolding file_bytes
file_length location kind body short texts =
    let size : List Pair = (length_name, decimal (length body)) ∷ [] in
    let fields = file_fields location kind (length body) in
    let digits = length-decimal-le 8 (length body) (omega arith) (omega (arith, short)) (omega (arith, short)) in
    let last = length_line length_name (decimal (length body)) in
    let end = length-append (line_of (length_name, decimal (length body))) [] in
    let middle = length_kind kind size in
    let first = length_line location_name location in
    let all = length-append (line_of (location_name, location)) (written (type_fields kind ++ size)) in
    let object = length_object false fields body in
    (object.0, omega (arith, object.1, digits, last, end, middle, first, all, short, texts))

-- ---- what an object's transmission information says is sound

ceil_le : (x y m : ℕ) → 1 ≤ y → x ≤ m * y → div_ceil x y ≤ m
ceil_le x y m some le =
    let parts = div_ceil_times x y some in
    elim (cases_lt m (div_ceil x y)) [
      | inl more ↦
          let all : suc m * y ≤ div_ceil x y * y = mul-le-mul_right y more in
          absurd (omega (arith, parts.1, all, le))
      | inr less ↦ less
    ]

few_sources : (length symbol m : ℕ) → 8 ≤ symbol → length ≤ m * 8 → div_ceil length symbol ≤ m
few_sources length symbol m wide short =
    let all : m * 8 ≤ m * symbol = mul-le-mul_left m wide in
    ceil_le length symbol m (omega (arith, wide)) (omega (arith, all, short))

few_blocks : (sources block m : ℕ) → 1 ≤ block → sources ≤ m → div_ceil sources block ≤ m
few_blocks sources block m some few =
    let all : m ≤ m * block = le-mul_of_pos_right m some in
    ceil_le sources block m some (omega (arith, all, few))

pub sound_information : (params : Params) (bytes : List ℕ) → 8 ≤ params.symbol → params.symbol ≤ 65475 → 1 ≤ params.max_block
    → params.max_block ≤ params.max_n → params.max_n < 256 → 8 ≤ length bytes → length bytes ≤ 134217728 → IsSound (information params bytes)
unfolding sources blocks
sound_information params bytes wide narrow some within fits long short =
    let sources_few = few_sources (length bytes) params.symbol 16777216 wide (omega (arith, short)) in
    let few = few_blocks (div_ceil (length bytes) params.symbol) params.max_block 16777216 some sources_few in
    record {
      long = long;
      length_fits = omega (arith, short);
      some_symbol = omega (arith, wide);
      symbol_fits = omega (arith, narrow);
      some_block = some;
      block_within = within;
      max_n_fits = omega (arith, fits);
      few_blocks = few;
    }
