-- One step of the loop over watchers: `place` watchers have heard the event, and `gone` before them are gone.
use Rattle.std.proofs.Common.{◌≡◌, ℕ, suc, ◌+◌, ◌<◌, List, [], ◌∷◌, ◌++◌, length, take, drop, get_or, set, sym, ap, subst, ◌∙◌, arith, length-drop}
use Rattle.std.specs.List.{remove}
use Rattle.std.proofs.lemmas.List.{get_or-drop, take_more, take_more_set, drop-set-lt, take_at, drop_at, length-take-le, drop-drop, take-set-le}
use Rattle.watch_list.specs.Hearing.{Sifted}
use Rattle.watch_list.proofs.Siftings.{sifted_stays, sifted_goes}

-- the next watcher is one of the old ones
old_next : {B : Type 0} (old now : List B) (place gone : ℕ) → place < length now → drop place now ≡ drop (place + gone) old → place + gone < length old
old_next old now place gone less rest =
    omega (arith, less, ap length rest, length-drop place now, length-drop (place + gone) old)

same_next : {B : Type 0} (old now : List B) (place gone : ℕ) (d : B) → drop place now ≡ drop (place + gone) old → get_or now place d ≡ get_or old (place + gone) d
same_next old now place gone d rest =
    let here : place ≡ place + 0 = omega arith in
    let there : place + gone + 0 ≡ place + gone = omega arith in
    ap (λ n. get_or now n d) here ∙ sym (get_or-drop place now 0 d) ∙ ap (λ t. get_or t 0 d) rest
    ∙ get_or-drop (place + gone) old 0 d ∙ ap (λ n. get_or old n d) there

rest_next : {B : Type 0} (old now : List B) (place gone : ℕ) → drop place now ≡ drop (place + gone) old → drop (place + 1) now ≡ drop (place + gone + 1) old
rest_next old now place gone rest =
    sym (drop-drop 1 place now) ∙ ap (λ t. drop 1 t) rest ∙ drop-drop 1 (place + gone) old

-- a watcher heard the event, and stands in its place
pub step_stays : {B : Type 0} (old now : List B) (place gone : ℕ) (v w d : B) (Stays : B → B → Type 0) (Goes : B → Type 0)
    → place < length now → drop place now ≡ drop (place + gone) old → Sifted Stays Goes (take (place + gone) old) (take place now)
    → v ≡ get_or now place d → Stays v w → Sifted Stays Goes (take (place + 1 + gone) old) (take (place + 1) (set now place w))
step_stays old now place gone v w d Stays Goes less rest front is stays =
    let next : take (place + 1 + gone) old ≡ take (place + gone) old ++ get_or old (place + gone) d ∷ [] =
    ap (λ n. take n old) (omega arith) ∙ take_more old (place + gone) d (old_next old now place gone less rest) in
    subst (λ t. Sifted Stays Goes t (take (place + 1) (set now place w))) (sym next)
    (subst (λ t. Sifted Stays Goes (take (place + gone) old ++ get_or old (place + gone) d ∷ []) t) (sym (take_more_set now place w less))
    (sifted_stays (take (place + gone) old) (take place now) (get_or old (place + gone) d) w Stays Goes front
    (subst (λ u. Stays u w) (is ∙ same_next old now place gone d rest) stays)))

-- and those behind it are as they were
pub rest_stays : {B : Type 0} (old now : List B) (place gone : ℕ) (w : B) → drop place now ≡ drop (place + gone) old
    → drop (place + 1) (set now place w) ≡ drop (place + 1 + gone) old
rest_stays old now place gone w rest =
    drop-set-lt (place + 1) now place w (omega arith) ∙ rest_next old now place gone rest ∙ ap (λ n. drop n old) (omega arith)

front_goes : {B : Type 0} (now : List B) (place : ℕ) (w : B) → place < length now → length (take place (set now place w)) ≡ place
front_goes now place w less = ap length (take-set-le place now place w (omega arith)) ∙ length-take-le place now (omega (arith, less))

-- a watcher refused the event, and is taken out
pub step_goes : {B : Type 0} (old now after : List B) (place gone : ℕ) (v w d : B) (Stays : B → B → Type 0) (Goes : B → Type 0)
    → place < length now → drop place now ≡ drop (place + gone) old → Sifted Stays Goes (take (place + gone) old) (take place now)
    → after ≡ remove (set now place w) place → v ≡ get_or now place d → Goes v
    → Sifted Stays Goes (take (place + (gone + 1)) old) (take place after)
step_goes old now after place gone v w d Stays Goes less rest front removed is goes =
    let next : take (place + (gone + 1)) old ≡ take (place + gone) old ++ get_or old (place + gone) d ∷ [] =
    ap (λ n. take n old) (omega arith) ∙ take_more old (place + gone) d (old_next old now place gone less rest) in
    let front_is : take place after ≡ take place now =
    ap (λ t. take place t) removed
    ∙ take_at (take place (set now place w)) (drop (suc place) (set now place w)) place (front_goes now place w less)
    ∙ take-set-le place now place w (omega arith) in
    subst (λ t. Sifted Stays Goes t (take place after)) (sym next)
    (subst (λ t. Sifted Stays Goes (take (place + gone) old ++ get_or old (place + gone) d ∷ []) t) (sym front_is)
    (sifted_goes (take (place + gone) old) (take place now) (get_or old (place + gone) d) Stays Goes front
    (subst Goes (is ∙ same_next old now place gone d rest) goes)))

-- and those behind it are as they were
pub rest_goes : {B : Type 0} (old now after : List B) (place gone : ℕ) (w : B) → place < length now → drop place now ≡ drop (place + gone) old
    → after ≡ remove (set now place w) place → drop place after ≡ drop (place + (gone + 1)) old
rest_goes old now after place gone w less rest removed =
    let next : suc place ≡ place + 1 = omega arith in
    let behind : drop (suc place) (set now place w) ≡ drop (place + 1) now =
    ap (λ n. drop n (set now place w)) next ∙ drop-set-lt (place + 1) now place w (omega arith) in
    ap (λ t. drop place t) removed
    ∙ drop_at (take place (set now place w)) (drop (suc place) (set now place w)) place (front_goes now place w less)
    ∙ behind ∙ rest_next old now place gone rest ∙ ap (λ n. drop n old) (omega arith)
