-- Nothing held.
use Rattle.std.specs.Prelude.{is_some}
use Rattle.std.proofs.Common.{Some, ◌≡◌, ℕ, List, [], ◌∷◌, ◌∙◌, refl, sym, ap, arith, length, None}
use Rattle.std.specs.List.{sum_by}
use Rattle.std.specs.Ordering.{nat_cmp}
use Rattle.std.specs.FinMap.{get, entries, len-empty, len-entries, get-empty}
use Rattle.oti_blocks.specs.Partition.{ObjectInformation, encoding_at}
use Rattle.wire_bytes.proofs.Public.{count_none}
use Rattle.held_packets.specs.Held.{nothing_held, place, place_cmp, row_at, is_held, symbols_held}
use Rattle.held_packets.specs.HeldPair.{IsHeldPair}
use Rattle.held_packets.specs.Count.{byte_count, object_count}
use Rattle.held_packets.specs.Whole.{whole, bytes_when_ready}

-- a list of length 0 is empty
pub nothing_listed : {A : Type 0} (xs : List A) → length xs ≡ 0 → xs ≡ []
nothing_listed [] e = refl
nothing_listed (x ∷ xs) e = absurd (omega arith)

-- nothing counts nothing
pub nothing_counted : byte_count nothing_held ≡ 0
unfolding byte_count
nothing_counted = ap (sum_by (λ e. object_count nothing_held e.0 e.1))
    (nothing_listed (entries (nothing_held.objects)) (sym (len-entries nothing_held.objects) ∙ len-empty nat_cmp ObjectInformation))

pub nothing_open : (t : ℕ) → get nothing_held.objects t ≡ None
nothing_open t = get-empty nat_cmp t

-- nothing is whole
pub nothing_whole : (t : ℕ) → whole nothing_held t ≡ None
unfolding whole
nothing_whole t = ap (bytes_when_ready nothing_held t) (nothing_open t)

pub nothing_at : (t b j : ℕ) → row_at nothing_held (place t b j) ≡ None
nothing_at t b j = get-empty place_cmp (place t b j)

pub nothing_pair : IsHeldPair nothing_held
nothing_pair = record {
  sound = λ t o e. absurd (let both : None ≡ Some o = sym (nothing_open t) ∙ e in cc);
  opened = λ t b j row e. absurd (let both : None ≡ Some row = sym (nothing_at t b j) ∙ e in cc);
  within = λ t b j row o e f. absurd (let both : None ≡ Some row = sym (nothing_at t b j) ∙ e in cc);
  most = λ t b o e. absurd (let both : None ≡ Some o = sym (nothing_open t) ∙ e in cc);
}

-- no symbol of any block
pub nothing_symbols : (t : ℕ) (o : ObjectInformation) (b : ℕ) → symbols_held nothing_held t o b ≡ 0
nothing_symbols t o b = count_none (encoding_at o b) (λ j. is_held nothing_held (place t b j)) (λ j less. ap is_some (nothing_at t b j))
