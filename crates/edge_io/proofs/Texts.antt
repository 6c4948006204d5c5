-- Texts that start with the magic, and texts that don't.
use Rattle.std.proofs.Common.{◌≡◌, ℕ, ◌≤◌, ◌<◌, ◌^◌, true, false, List, [], ◌++◌, length, drop, Some, All, nat_eq, refl, sym, ap, subst, arith, inl, inr, length-append}
use Rattle.std.specs.List.{starts_with}
use Rattle.std.proofs.lemmas.Slice.Eq.{starts_is}
use Rattle.std.proofs.lemmas.Bool.{cases_Bool, cond-true, cond-false}
use Rattle.std.proofs.lemmas.Bool.Decides.{Decides-eqb}
use Rattle.std.proofs.lemmas.List.Elements.{All-from_recursion}
use Rattle.edge_io.specs.Log.{magic, AreShort, items_of, torn_from, datagrams_of, torn_at}
use Rattle.edge_io.specs.Stages.{datagrams_left}
use Rattle.edge_io.specs.declared.log_reader.Stage.{Stage}
use Rattle.edge_io.specs.declared.log_reader.Stage.TheVariants.{Start, AtItem, TornAt, LostAt}
use Rattle.edge_io.proofs.Items.{parts}

-- the test of the magic, both ways
pub has_magic : (text : List ℕ) → starts_with nat_eq text magic ≡ true → text ≡ magic ++ drop 8 text
has_magic text h = (starts_is Decides-eqb text magic (starts_with nat_eq text magic) refl).0 h

pub starts_magic : (more : List ℕ) → starts_with nat_eq (magic ++ more) magic ≡ true
starts_magic more = (starts_is Decides-eqb (magic ++ more) magic (starts_with nat_eq (magic ++ more) magic) refl).1 more refl

pub length_magic : (text : List ℕ) → starts_with nat_eq text magic ≡ true → 8 ≤ length text
length_magic text h = omega (arith, ap length (has_magic text h), length-append magic (drop 8 text))

-- behind the magic stand the items
pub datagrams_with : (text : List ℕ) → starts_with nat_eq text magic ≡ true → datagrams_of text ≡ items_of (drop 8 text)
unfolding datagrams_of
datagrams_with text h = cond-true _ _ _ h

pub torn_with : (text : List ℕ) → starts_with nat_eq text magic ≡ true → torn_at text ≡ torn_from 8 (drop 8 text)
unfolding torn_at
torn_with text h = cond-true _ _ _ h

-- with no magic there is nothing, and the text is torn at its start
pub datagrams_without : (text : List ℕ) → starts_with nat_eq text magic ≡ false → datagrams_of text ≡ []
unfolding datagrams_of
datagrams_without text h = cond-false _ _ _ h

pub torn_without : (text : List ℕ) → starts_with nat_eq text magic ≡ false → torn_at text ≡ Some 0
unfolding torn_at
torn_without text h = cond-false _ _ _ h

-- the datagrams of a text are short
pub datagrams_short : (text : List ℕ) → AreShort (datagrams_of text)
datagrams_short text =
    elim (cases_Bool (starts_with nat_eq text magic)) [
      | inl h ↦ subst AreShort (sym (datagrams_with text h)) (parts (drop 8 text)).short
      | inr h ↦ subst AreShort (sym (datagrams_without text h)) tt
    ]

pub at_most : (ds : List (List ℕ)) → AreShort ds → All (λ d. length d ≤ 65535) ds
at_most ds s = λ k d l. let short = All-from_recursion (λ d. length d < 2 ^ 16) ds s k d l in omega (arith, short)

pub left_short : (stage : Stage) (bytes : List ℕ) → All (λ d. length d ≤ 65535) (datagrams_left stage bytes)
left_short Start bytes = at_most (datagrams_of bytes) (datagrams_short bytes)
left_short (AtItem place) bytes = at_most (items_of bytes) (parts bytes).short
left_short (TornAt place) bytes = at_most [] tt
left_short (LostAt place) bytes = at_most [] tt
