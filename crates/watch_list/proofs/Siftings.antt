-- Lists that are sifted.
use Rattle.std.proofs.Common.{◌≡◌, List, [], ◌∷◌, ◌++◌, inl, inr, refl, ap, subst}
use Rattle.watch_list.specs.Hearing.{Sifted}

-- one more at the end, that stays
pub sifted_stays : {B : Type 0} (vs ws : List B) (v w : B) (Stays : B → B → Type 0) (Goes : B → Type 0)
    → Sifted Stays Goes vs ws → Stays v w → Sifted Stays Goes (vs ++ v ∷ []) (ws ++ w ∷ [])
sifted_stays [] ws v w Stays Goes s stays = inl (w, [], ap (λ t. t ++ w ∷ []) s, stays, refl)
sifted_stays (u ∷ us) ws v w Stays Goes s stays = elim s [
  | inl p ↦ inl (p.0, p.1 ++ w ∷ [], ap (λ t. t ++ w ∷ []) p.2, p.3, sifted_stays us p.1 v w Stays Goes p.4 stays)
  | inr p ↦ inr (p.0, sifted_stays us ws v w Stays Goes p.1 stays)
]

-- one more at the end, that is gone
pub sifted_goes : {B : Type 0} (vs ws : List B) (v : B) (Stays : B → B → Type 0) (Goes : B → Type 0)
    → Sifted Stays Goes vs ws → Goes v → Sifted Stays Goes (vs ++ v ∷ []) ws
sifted_goes [] ws v Stays Goes s goes = inr (goes, s)
sifted_goes (u ∷ us) ws v Stays Goes s goes = elim s [
  | inl p ↦ inl (p.0, p.1, p.2, p.3, sifted_goes us p.1 v Stays Goes p.4 goes)
  | inr p ↦ inr (p.0, sifted_goes us ws v Stays Goes p.1 goes)
]

-- nothing is gone where each stays as it is
pub sifted_self : {B : Type 0} (vs : List B) (Stays : B → B → Type 0) (Goes : B → Type 0) → ((v : B) → Stays v v) → Sifted Stays Goes vs vs
sifted_self [] Stays Goes stays = refl
sifted_self (v ∷ vs) Stays Goes stays = inl (v, vs, refl, stays v, sifted_self vs Stays Goes stays)

-- a list that is sifted twice
pub sifted_twice : {B : Type 0} (us vs ws : List B) (Stays₁ Stays₂ Stays₃ : B → B → Type 0) (Goes₁ Goes₂ Goes₃ : B → Type 0)
    → ((u v w : B) → Stays₁ u v → Stays₂ v w → Stays₃ u w) → ((u : B) → Goes₁ u → Goes₃ u) → ((u v : B) → Stays₁ u v → Goes₂ v → Goes₃ u)
    → Sifted Stays₁ Goes₁ us vs → Sifted Stays₂ Goes₂ vs ws → Sifted Stays₃ Goes₃ us ws
sifted_twice [] vs ws Stays₁ Stays₂ Stays₃ Goes₁ Goes₂ Goes₃ both gone late first second = subst (λ t. Sifted Stays₂ Goes₂ t ws) first second
sifted_twice (u ∷ us) vs ws Stays₁ Stays₂ Stays₃ Goes₁ Goes₂ Goes₃ both gone late first second = elim first [
  | inl p ↦ sifted_on u us vs ws p.0 p.1 Stays₁ Stays₂ Stays₃ Goes₁ Goes₂ Goes₃ both late p.3 p.2
      (λ rest. sifted_twice us p.1 rest Stays₁ Stays₂ Stays₃ Goes₁ Goes₂ Goes₃ both gone late p.4) second
  | inr p ↦ inr (gone u p.0, sifted_twice us vs ws Stays₁ Stays₂ Stays₃ Goes₁ Goes₂ Goes₃ both gone late p.1 second)
]
  where
    sifted_on : {B : Type 0} (u : B) (us vs ws : List B) (v : B) (rest : List B) (Stays₁ Stays₂ Stays₃ : B → B → Type 0) (Goes₁ Goes₂ Goes₃ : B → Type 0)
        → ((u v w : B) → Stays₁ u v → Stays₂ v w → Stays₃ u w) → ((u v : B) → Stays₁ u v → Goes₂ v → Goes₃ u)
        → Stays₁ u v → vs ≡ v ∷ rest → ((more : List B) → Sifted Stays₂ Goes₂ rest more → Sifted Stays₃ Goes₃ us more)
        → Sifted Stays₂ Goes₂ vs ws → Sifted Stays₃ Goes₃ (u ∷ us) ws
    sifted_on u us vs ws v rest Stays₁ Stays₂ Stays₃ Goes₁ Goes₂ Goes₃ both late stays is further second =
        let second' : Sifted Stays₂ Goes₂ (v ∷ rest) ws = subst (λ t. Sifted Stays₂ Goes₂ t ws) is second in
        elim second' [
          | inl q ↦ inl (q.0, q.1, q.2, both u v q.0 stays q.3, further q.1 q.4)
          | inr q ↦ inr (late u v stays q.0, further ws q.1)
        ]
