-- A drill step by step: what is drawn first, and the rest.
use Rattle.std.proofs.Common.{◌≡◌, ℕ, suc, ◌+◌, ◌-◌, ◌%◌, ◌<◌, List, [], ◌∷◌, ◌++◌, ◌∙◌, sym, ap, arith}
use Rattle.std.proofs.lemmas.List.{append_assoc}
use Rattle.run_drill.specs.Drill.{next_state, draw, after_draws, drawn_bytes, body, after_body, bodies, after_bodies}

-- one is left, and then the others
one_left : (n i : ℕ) → i < n → n - i ≡ suc (n - (i + 1))
one_left n i less = omega (arith, less)

pub bytes_more : (bs bs' : List ℕ) (n i x x' v : ℕ) → i < n → v ≡ draw x → x' ≡ next_state x → bs' ≡ bs ++ v % 256 ∷ []
    → bs' ++ drawn_bytes (n - (i + 1)) x' ≡ bs ++ drawn_bytes (n - i) x
bytes_more bs bs' n i x x' v less number state is =
    ap (λ (xs : List ℕ). xs ++ drawn_bytes (n - (i + 1)) x') (is ∙ ap (λ k. bs ++ k % 256 ∷ []) number)
    ∙ ap (λ k. (bs ++ draw x % 256 ∷ []) ++ drawn_bytes (n - (i + 1)) k) state
    ∙ append_assoc bs (draw x % 256 ∷ []) (drawn_bytes (n - (i + 1)) (next_state x))
    ∙ ap (λ k. bs ++ drawn_bytes k x) (sym (one_left n i less))

pub draws_more : (n i x x' : ℕ) → i < n → x' ≡ next_state x → after_draws (n - (i + 1)) x' ≡ after_draws (n - i) x
draws_more n i x x' less state = ap (after_draws (n - (i + 1))) state ∙ ap (λ k. after_draws k x) (sym (one_left n i less))

pub bodies_more : (bs bs' : List (List ℕ)) (n i x x' : ℕ) (b : List ℕ) → i < n → b ≡ body x → x' ≡ after_body x → bs' ≡ bs ++ b ∷ []
    → bs' ++ bodies (n - (i + 1)) x' ≡ bs ++ bodies (n - i) x
bodies_more bs bs' n i x x' b less file state is =
    ap (λ (xs : List (List ℕ)). xs ++ bodies (n - (i + 1)) x') (is ∙ ap (λ f. bs ++ f ∷ []) file)
    ∙ ap (λ k. (bs ++ body x ∷ []) ++ bodies (n - (i + 1)) k) state
    ∙ append_assoc bs (body x ∷ []) (bodies (n - (i + 1)) (after_body x))
    ∙ ap (λ k. bs ++ bodies k x) (sym (one_left n i less))

pub files_more : (n i x x' : ℕ) → i < n → x' ≡ after_body x → after_bodies (n - (i + 1)) x' ≡ after_bodies (n - i) x
files_more n i x x' less state = ap (after_bodies (n - (i + 1))) state ∙ ap (λ k. after_bodies k x) (sym (one_left n i less))
