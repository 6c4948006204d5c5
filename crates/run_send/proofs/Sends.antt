-- The stages of a send, one after another.
use Rattle.std.proofs.Common.{◌≡◌, ℕ, Some, inl, inr, ◌+◌, ◌≤◌, List, [], ◌∷◌, ◌++◌, ◌∙◌, refl, sym, ap, subst, arith, length, take, append_assoc}
use Rattle.std.specs.Prelude.{◌⊎◌, Result, Ok, Err}
use Rattle.std.proofs.lemmas.List.{append-nil}
use Rattle.std.proofs.Math.Seq.{take-append_seam}
use Rattle.edge_io.specs.Faults.{Rose}
use Rattle.sender_plan.specs.CatalogInstance.{CatalogInstance}
use Rattle.sender_plan.specs.Names.{names_of}
use Rattle.sender_plan.specs.Plan.{planned, plan_faults}
use Rattle.sender_plan.specs.Session.{Session, IsSession}
use Rattle.sender_plan.specs.declared.params.Params.{Params}
use Rattle.sender_schedule.specs.Schedule.{schedule}
use Rattle.std.specs.Result.{result_ok}
use Rattle.run_base.specs.Parts.{AddsPart}
use Rattle.run_base.specs.declared.status.Status.TheVariants as statuses
use Rattle.run_send.specs.Send.{Found, and_then, bytes_under, catalog_in, checked, unless_any, within, bodies_of, session_of, asked, sent, session_asked, refusal_status}
use Rattle.run_send.specs.Inner.Stages.{Decides, Misses, Halts, Sends, HasSent, ComesTo, behind}
use Rattle.run_send.specs.declared.sending.Sending.{Sending}
use Rattle.run_send.specs.declared.sending.Refusal.{Refusal}
use Rattle.run_send.specs.declared.sending.Refusal.TheVariants.{Line, Plan, Absent, TooBig}
use Rattle.run_send.specs.declared.sending.Stop.{Stop}
use Rattle.run_send.specs.declared.sending.Stop.TheVariants.{Refused, Emit, Files, Memory}

-- ---- what is asked next

-- what stops a stage stops what is asked with it
pub stopped : {A B : Type 0} (o : Result A Refusal) (f : A → Result B Refusal) (stop : Stop)
    → Decides {A = A} o (Err stop) → Decides {A = B} (and_then o f) (Err stop)
stopped o f (Refused refusal) is = ap (λ o. and_then o f) is
stopped o f Emit is = tt
stopped o f Files is = tt
stopped o f Memory is = tt

pub decided : {A B : Type 0} (o : Result A Refusal) (f : A → Result B Refusal) (a : A) (answer : Result B Stop)
    → o ≡ Ok a → Decides (f a) answer → Decides (and_then o f) answer
decided o f a answer is next = subst (λ o. Decides (and_then o f) answer) (sym is) next

next_same : {A B : Type 0} (o : Result A Refusal) (f g : A → Result B Refusal) → ((a : A) → f a ≡ g a) → and_then o f ≡ and_then o g
next_same (Ok a) f g same = same a
next_same (Err refusal) f g same = refl

-- ---- files that tell the same

bodies_same : (f g : Found) → ((name : List ℕ) → f name ≡ g name) → (before : ℕ) (names : List (List ℕ)) → bodies_of f before names ≡ bodies_of g before names
bodies_same f g same before [] = refl
bodies_same f g same before (name ∷ names) =
    ap (λ found. and_then (and_then (bytes_under name found) (within before)) (λ body.
    and_then (bodies_of f (before + length body) names) (λ bodies. Ok (body ∷ bodies)))) (same name)
    ∙ next_same (and_then (bytes_under name (g name)) (within before)) _ _ (λ body.
    ap (λ bodies. and_then bodies (λ bodies. Ok (body ∷ bodies))) (bodies_same f g same (before + length body) names))

session_same : (f g : Found) (params : Params) (instances : List CatalogInstance) → ((name : List ℕ) → f name ≡ g name)
    → session_of f params instances ≡ session_of g params instances
session_same f g params instances same =
    next_same (checked instances params) _ _ (λ none.
    ap (λ bodies. and_then bodies (λ bodies. unless_any (plan_faults instances bodies params) (planned instances bodies params)))
    (bodies_same f g same 0 (names_of instances)))

pub loaded : (found now : Found) (s : Sending) (text : List ℕ) (instances : List CatalogInstance) (answer : Result Session Stop)
    → bytes_under s.catalog (found s.catalog) ≡ Ok text → catalog_in text ≡ Ok instances → ((name : List ℕ) → now name ≡ found name)
    → Decides (session_of now s.params instances) answer → Decides (asked found s) answer
loaded found now s text instances answer is_text is_listed same next =
    decided (bytes_under s.catalog (found s.catalog)) _ text answer is_text
    (decided (catalog_in text) _ instances answer is_listed
    (subst (λ r. Decides r answer) (session_same now found s.params instances same) next))

pub not_listed : (found : Found) (s : Sending) (text : List ℕ) (stop : Stop) → bytes_under s.catalog (found s.catalog) ≡ Ok text
    → Decides {A = List CatalogInstance} (catalog_in text) (Err stop) → Decides {A = Session} (asked found s) (Err stop)
not_listed found s text stop is_text is =
    decided (bytes_under s.catalog (found s.catalog)) _ text (Err stop) is_text (stopped (catalog_in text) (session_of found s.params) stop is)

-- ---- the bodies, one after another

behind_more : (bodies : List (List ℕ)) (body : List ℕ) (more : Result (List (List ℕ)) Refusal)
    → behind bodies (and_then more (λ more. Ok (body ∷ more))) ≡ behind (bodies ++ body ∷ []) more
behind_more bodies body (Ok more) = ap (λ bodies. Ok bodies) (sym (append_assoc bodies (body ∷ []) more))
behind_more bodies body (Err refusal) = refl

-- the next of these names has this body
pub bodies_more : (found now : Found) (all : Result (List (List ℕ)) Refusal) (bodies names rest : List (List ℕ)) (before : ℕ) (name body : List ℕ)
    → names ≡ name ∷ rest → now name ≡ found name → all ≡ behind bodies (bodies_of found before names)
    → and_then (bytes_under name (now name)) (within before) ≡ Ok body
    → all ≡ behind (bodies ++ body ∷ []) (bodies_of found (before + length body) rest)
bodies_more found now all bodies names rest before name body is_next same is found_body =
    is ∙ ap (λ names. behind bodies (bodies_of found before names)) is_next
    ∙ ap (λ o. behind bodies (and_then (and_then (bytes_under name o) (within before)) (λ body.
    and_then (bodies_of found (before + length body) rest) (λ more. Ok (body ∷ more))))) (sym same)
    ∙ ap (λ o. behind bodies (and_then o (λ body. and_then (bodies_of found (before + length body) rest) (λ more. Ok (body ∷ more))))) found_body
    ∙ behind_more bodies body (bodies_of found (before + length body) rest)

-- or it stops
pub bodies_stop : (found now : Found) (all : Result (List (List ℕ)) Refusal) (bodies names rest : List (List ℕ)) (before : ℕ) (name : List ℕ) (stop : Stop)
    → names ≡ name ∷ rest → now name ≡ found name → all ≡ behind bodies (bodies_of found before names)
    → Decides {A = List ℕ} (and_then (bytes_under name (now name)) (within before)) (Err stop) → Decides {A = List (List ℕ)} all (Err stop)
bodies_stop found now all bodies names rest before name (Refused refusal) is_next same is stops =
    is ∙ ap (λ names. behind bodies (bodies_of found before names)) is_next
    ∙ ap (λ o. behind bodies (and_then (and_then (bytes_under name o) (within before)) (λ body.
    and_then (bodies_of found (before + length body) rest) (λ more. Ok (body ∷ more))))) (sym same)
    ∙ ap (λ o. behind bodies (and_then o (λ body. and_then (bodies_of found (before + length body) rest) (λ more. Ok (body ∷ more))))) stops
bodies_stop found now all bodies names rest before name Emit is_next same is stops = tt
bodies_stop found now all bodies names rest before name Files is_next same is stops = tt
bodies_stop found now all bodies names rest before name Memory is_next same is stops = tt

pub bodies_all : (found : Found) (all : Result (List (List ℕ)) Refusal) (bodies names : List (List ℕ)) (before : ℕ)
    → names ≡ [] → all ≡ behind bodies (bodies_of found before names) → all ≡ Ok bodies
bodies_all found all bodies names before none is =
    is ∙ ap (λ names. behind bodies (bodies_of found before names)) none ∙ ap (λ bodies. Ok bodies) (append-nil bodies)

-- ---- counts that rise

rose_later : (old mid new : ℕ) → old ≤ mid → Rose mid new → Rose old new
rose_later old mid new grows rose = λ few. rose (omega (arith, grows, few))

misses_later : (refusal : Refusal) (m n : Type 0) → (m → n) → Misses refusal m → Misses refusal n
misses_later (Line number cause) m n f is = tt
misses_later (Plan cause at) m n f is = tt
misses_later (Absent name) m n f is = f is
misses_later (TooBig name) m n f is = f is

pub halts_weaker : {A : Type 0} (answer : Result A Stop) (e e' f f' m m' : Type 0) → (e → e') → (f → f') → (m → m') → Halts answer e f m → Halts answer e' f' m'
halts_weaker (Ok a) e e' f f' m m' emit files missed is = tt
halts_weaker (Err (Refused refusal)) e e' f f' m m' emit files missed is = misses_later refusal m m' missed is
halts_weaker (Err Emit) e e' f f' m m' emit files missed is = emit is
halts_weaker (Err Files) e e' f f' m m' emit files missed is = files is
halts_weaker (Err Memory) e e' f f' m m' emit files missed is = tt

pub halts_later : {A : Type 0} (answer : Result A Stop) (e : Type 0) (old mid new old' mid' new' : ℕ) → old ≤ mid → old' ≤ mid'
    → Halts answer e (Rose mid new) (Rose mid' new') → Halts answer e (Rose old new) (Rose old' new')
halts_later answer e old mid new old' mid' new' grows grows' is =
    halts_weaker answer e e (Rose mid new) (Rose old new) (Rose mid' new') (Rose old' new') (λ x. x) (rose_later old mid new grows) (rose_later old' mid' new' grows') is

-- what neither reads nor sends
pub halts_at_none : {A : Type 0} (answer : Result A Stop) (e f m : Type 0) → Halts answer ⊥ ⊥ ⊥ → Halts answer e f m
halts_at_none answer e f m is = halts_weaker answer ⊥ e ⊥ f ⊥ m (λ none. absurd none) (λ none. absurd none) (λ none. absurd none) is

-- what doesn't send
pub halts_at_files : {A : Type 0} (answer : Result A Stop) (e f m : Type 0) → Halts answer ⊥ f m → Halts answer e f m
halts_at_files answer e f m is = halts_weaker answer ⊥ e f f m m (λ none. absurd none) (λ x. x) (λ x. x) is

pub missed_of : (refusal : Refusal) (missed : Type 0) → refusal_status refusal ≡ statuses.Missing → Misses refusal missed → missed
missed_of (Line number cause) missed missing is = absurd cc
missed_of (Plan cause at) missed missing is = absurd cc
missed_of (Absent name) missed missing is = is
missed_of (TooBig name) missed missing is = is

-- ---- the datagrams, one after another

pub sends_none : (whole old : List (List ℕ)) → HasSent whole whole old old
sends_none whole old = record { sent = []; all = refl; told = sym (append-nil old) }

pub sends_more : (d : List ℕ) (left list whole old mid new : List (List ℕ))
    → HasSent left list old mid → left ≡ d ∷ whole → new ≡ mid ++ d ∷ [] → HasSent whole list old new
sends_more d left list whole old mid new has is now = record {
  sent = has.sent ++ d ∷ [];
  all = has.all ∙ ap (λ left. has.sent ++ left) is ∙ sym (append_assoc has.sent (d ∷ []) whole);
  told = now ∙ ap (λ mid. mid ++ d ∷ []) has.told ∙ append_assoc old has.sent (d ∷ []);
}

pub sends_all : (left list old new : List (List ℕ)) → HasSent left list old new → left ≡ [] → new ≡ old ++ list
sends_all left list old new has none =
    has.told ∙ ap (λ sent. old ++ sent) (sym (append-nil has.sent) ∙ ap (λ left. has.sent ++ left) (sym none) ∙ sym has.all)

pub sends_part : (left list old mid new : List (List ℕ)) → HasSent left list old mid → new ≡ mid → AddsPart list old new
sends_part left list old mid new has same = record {
  added = length has.sent;
  all = same ∙ has.told ∙ ap (λ ds. old ++ ds) (sym (ap (take (length has.sent)) has.all ∙ take-append_seam has.sent left));
}

pub part_of_all : {A E : Type 0} (answer : Result A E) (list old new : List (List ℕ)) → Sends answer list old new → AddsPart list old new
part_of_all (Ok a) list old new is = record {
  added = length list;
  all = is ∙ ap (λ ds. old ++ ds) (sym (ap (take (length list)) (sym (append-nil list)) ∙ take-append_seam list []));
}
part_of_all (Err e) list old new part = part

-- ---- what all of it comes to

pub is_refused : (found : Found) (s : Sending) (stop : Stop) → Decides {A = Session} (asked found s) (Err stop) → ComesTo {A = Unit {0}} (sent found s) (Err stop)
unfolding sent
is_refused found s (Refused refusal) is = rw is refl
is_refused found s Emit is = tt
is_refused found s Files is = tt
is_refused found s Memory is = tt

pub is_sent : (found : Found) (s : Sending) (session : Session) → asked found s ≡ Ok session
    → ((sent found s).status ≡ statuses.Done) × ((sent found s).text ≡ []) × (schedule session ≡ (sent found s).sent)
unfolding sent
is_sent found s session is = rw is (refl, refl, refl)

-- what is asked is sound where what was made of it is
pub sound_of : (found : Found) (s : Sending) (made : Session) (P : Type 0) → asked found s ≡ Ok made → IsSession made
    → (session : Session) → session_asked found s ≡ Some session → P ⊎ IsSession session
unfolding session_asked
sound_of found s made P is sound session same =
    inr (subst IsSession (let both : Some made ≡ Some session = sym (ap result_ok is) ∙ same in let e : made ≡ session = cc in e) sound)

pub nothing_sent_of : (found : Found) (s : Sending) (P : Type 0) → P → (session : Session) → session_asked found s ≡ Some session → P ⊎ IsSession session
nothing_sent_of found s P nothing session same = inl nothing
