-- A block with one more symbol.
use Rattle.std.proofs.Common.{◌≡◌, ℕ, ◌-◌, ◌<◌, ◌≤◌, List, [], ◌∷◌, ◌++◌, length, take, refl, sym, ap, subst, ◌∙◌, arith, None}
use Rattle.std.proofs.lemmas.List.{length-append}
use Rattle.std.specs.FinMap.{get}
use Rattle.wire_bytes.specs.Bytes.{zero_filled}
use Rattle.wire_bytes.proofs.Public.{length_filled}
use Rattle.object_store.specs.Inner.BlockHeld.{BlockHeld, held_in, with_symbol, solving_steps}
use Rattle.object_store.specs.Inner.BlockRows.{rows_map, rows_held, IsBlock, steps_when_full}
use Rattle.object_store.proofs.Blocks.{held_is_length, with_row, map_with, steps_with, front_of}
use Rattle.object_store.proofs.SymbolRows.{held_below}

abbrev pub seen_as : ℕ → ℕ → ℕ → List ℕ → List ℕ → BlockHeld
seen_as k n size places rows = record { k = k; n = n; size = size; rows = rows_map size places rows }

-- what a symbol makes of a block in memory, before it is solved
pub record IsAdded (h : BlockHeld) (k n size j : ℕ) (symbol places rows : List ℕ) : Type 0 where
  pub holds : IsBlock k n size places rows
  pub least : 1 ≤ length places
  pub view : seen_as k n size places rows ≡ with_symbol h j symbol
  pub steps : steps_when_full k places ≡ solving_steps (with_symbol h j symbol)

pub added : (h : BlockHeld) (k n size j width : ℕ) (symbol places rows more longer : List ℕ)
    → seen_as k n size places (rows_held k size places rows) ≡ h → IsBlock k n size places rows
    → j < h.n → get h.rows j ≡ None → held_in h < h.k → length symbol ≤ h.size → width ≡ size → more ≡ places ++ j ∷ [] → longer ≡ rows ++ zero_filled width symbol
    → IsAdded h k n size j symbol more longer
added h k n size j width symbol places rows more longer view is less vacant wanting within same ps rs =
    let row = zero_filled size symbol in
    let fits : length symbol ≤ size = subst (λ (g : BlockHeld). length symbol ≤ g.size) (sym view) within in
    let long = length_filled size symbol fits in
    let open_ : length places < k = subst (λ (m : ℕ). m < k) (held_is_length k n size places rows (rows_held k size places rows) is)
    (subst (λ (g : BlockHeld). held_in g < g.k) (sym view) wanting) in
    let seen : seen_as k n size places rows ≡ h = ap (seen_as k n size places) (sym (held_below k size places rows open_)) ∙ view in
    let free : get (rows_map size places rows) j ≡ None = ap (λ (g : BlockHeld). get g.rows j) seen ∙ vacant in
    let holds = with_row k n size j places rows row is (subst (λ (g : BlockHeld). j < g.n) (sym view) less) free open_ long in
    let rows_are : longer ≡ rows ++ row = rs ∙ ap (λ (w : ℕ). rows ++ zero_filled w symbol) same in
    let there : IsBlock k n size more longer = subst (λ (xs : List ℕ). IsBlock k n size more xs)
    (sym rows_are) (subst (λ (xs : List ℕ). IsBlock k n size xs (rows ++ row)) (sym ps) holds) in
    let view_is : seen_as k n size more longer ≡ with_symbol h j symbol =
    ap (λ (xs : List ℕ). seen_as k n size xs longer) ps ∙ ap (λ (xs : List ℕ). seen_as k n size (places ++ j ∷ []) xs) rows_are
    ∙ (λ i. record { k = k; n = n; size = size; rows = map_with size j places rows row is.whole long free i })
    ∙ ap (λ (g : BlockHeld). with_symbol g j symbol) seen in record {
      holds = there;
      least = omega (arith, ap length ps, length-append places (j ∷ []));
      view = view_is;
      steps = steps_with k n size more longer there ∙ ap solving_steps view_is;
    }

-- taken back, it is the old one
pub taken_back : (size j width : ℕ) (symbol places rows more longer : List ℕ) → width ≡ size
    → length symbol ≤ size → more ≡ places ++ j ∷ [] → longer ≡ rows ++ zero_filled width symbol
    → (take (length more - 1) more ≡ places) × (take (length longer - width) longer ≡ rows)
taken_back size j width symbol places rows more longer same fits ps rs =
    let long = length_filled width symbol (omega (arith, same, fits)) in (
      ap (λ (xs : List ℕ). take (length xs - 1) xs) ps ∙ front_of places (j ∷ []) 1 refl,
      ap (λ (xs : List ℕ). take (length xs - width) xs) rs ∙ front_of rows (zero_filled width symbol) width (sym long),
    )
