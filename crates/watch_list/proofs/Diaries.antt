-- What a diary may refuse, with one event more.
use Rattle.std.proofs.Common.{◌≡◌, ℕ, suc, ◌+◌, ◌≤◌, ap, subst, ◌∙◌, arith, inl, inr}
use Rattle.std.specs.Prelude.{◌-◌, ◌^◌, ◌==◌, ◌⊎◌, min, IsTrue, OnOk, Result, Ok, Err}
use Rattle.std.specs.List.{list_any}
use Rattle.edge_io.specs.StatedCalls.{IsNextCall}
use Rattle.edge_io.specs.declared.calls.Calls.{Calls}
use Rattle.watch_list.specs.Refusing.{fails_after}

-- what holds of an answer that is Ok
pub where_ok : {T E P Q R S : Type 0} (answer : Result T E) → (P → Q → R → S) → OnOk answer P → OnOk answer Q → OnOk answer R → OnOk answer S
where_ok (Ok value) f p q r = f p q r
where_ok (Err fault) f p q r = p

-- the calls that are stated to fail, with one call more
fails_next_to : (old new : Calls) (more : ℕ) → IsNextCall old new → fails_after new more ≡ fails_after old (suc more)
fails_next_to old new more is =
    ap (λ items. list_any (λ n. n == min (new.made + (more + 1)) (2 ^ 64 - 1)) items) is.list
    ∙ ap (λ call. list_any (λ n. n == call) old.fails.items) (omega (arith, is.made))

-- it fails at a stated call, or where there is no room
pub fails_later : (old new : Calls) (len len' room room' more : ℕ) → IsNextCall old new → len' ≡ len + 1 → room ≤ room'
    → IsTrue (fails_after new more) ⊎ (room' ≤ len' + more) → IsTrue (fails_after old (suc more)) ⊎ (room ≤ len + suc more)
fails_later old new len len' room room' more is longer wider (inl stated) = inl (subst IsTrue (fails_next_to old new more is) stated)
fails_later old new len len' room room' more is longer wider (inr full) = inr (omega (arith, longer, wider, full))
