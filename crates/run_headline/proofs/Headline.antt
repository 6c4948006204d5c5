-- A run that reads a session's datagrams to their end installs the best instance of what the kept packets make ready.
use Rattle.std.proofs.Common.{◌≡◌, ℕ, Bool, true, false, List, [], ◌∷◌, ◌++◌, ◌∙◌, refl, sym, ap, subst, map, Option, Some, None, append_assoc}
use Rattle.std.specs.Prelude.{if◌then◌else◌}
use Rattle.std.specs.List.{All}
use Rattle.std.proofs.lemmas.List.Elements.{All-head, All-tail, All-cons, All-nil}
use Rattle.wire_bytes.specs.Bytes.{AreBytes}
use Rattle.std.proofs.lemmas.List.{append-nil}
use Rattle.held_packets.specs.Session.{Session, IsSession, IsOf, AreOf}
use Rattle.held_packets.specs.Verdict.{held_after}
use Rattle.alc_packet.specs.Packet.{SymbolPacket}
use Rattle.held_packets.specs.Session.{Sent}
use Rattle.held_packets.specs.Held.{Held}
use Rattle.held_packets.specs.Ready.{is_ready}
use Rattle.held_packets.specs.KeptSet.{kept, drops, gathered, ready_objects, sent_when_ready}
use Rattle.held_packets.proofs.Public.{whole_is_sent}
use Rattle.carousel_cid.specs.Instances.{Shown}
use Rattle.carousel_cid.specs.declared.file_of.FileOf.{FileOf}
use Rattle.receiver_core.specs.Best.{Objects, IsBestOf}
use Rattle.receiver_core.specs.InstanceOf.{AreOfBytes}
use Rattle.receiver_core.specs.BestOf.{installed_after}
use Rattle.receiver_core.specs.Classes.{packets_of}
use Rattle.edge_io.specs.Shelved.{Shelved, with_file}
use Rattle.edge_io.specs.ShelfCalls.{Begin, Finish, after, after_call}
use Rattle.run_base.specs.declared.settings.Settings.{Settings}
use Rattle.run_base.specs.declared.ending.Ending.{Ending}
use Rattle.run_base.specs.declared.ending.Ending.TheVariants.{End, Torn, TooMany}
use Rattle.run_receive.specs.Texts.{manifest, best_lines, over_line}
use Rattle.run_receive.specs.Outcome.{received, packets_taken, base_status, installing, put_of, outcome_of}
use Rattle.run_base.specs.Bounds.{datagrams_taken, ending_of}
use Rattle.run_base.specs.declared.status.Status.{Status}
use Rattle.run_base.specs.Outcome.{Outcome}
use Rattle.run_base.specs.Statuses.{is_at_end}
use Rattle.run_headline.specs.Headline.{IsDatagramOf, IsInstalled, InstallsBest}
use Rattle.run_receive.proofs.Public.{after-append, packets_have}
use Rattle.receiver_core.proofs.Public.{are_spelled, best_is_best, best_where_instance}

-- ---- the packets of a session's datagrams are the session's

pub packets_are : (s : Session) (tsi : ℕ) (ds : List (List ℕ)) → All (IsDatagramOf s tsi) ds → AreOf s (packets_of tsi ds)
packets_are s tsi ds all = packets_have (IsOf s) (IsDatagramOf s tsi) tsi
    (λ d is. (is.bytes, λ q spells of. record { packet = spells.packet; belongs = is.belongs q spells of })) ds all

-- what is ready is bytes
ready_bytes : (s : Session) (set : Held) → IsSession s → AreOfBytes (ready_objects s set)
unfolding ready_objects
ready_bytes s set session t bytes there = by (s t) refl there
  where
    when : (b : Bool) (own : List ℕ) → AreBytes own → (if b then Some own else None) ≡ Some bytes → AreBytes bytes
    when true own are e = subst AreBytes (let same : own ≡ bytes = cc in same) are
    when false own are e = absurd (let no_value : None ≡ Some bytes = e in cc)

    by : (o : Option Sent) → s t ≡ o → sent_when_ready set t o ≡ Some bytes → AreBytes bytes
    by None is e = absurd (let no_value : None ≡ Some bytes = e in cc)
    by (Some x) is e = when (is_ready set t x.oti) x.bytes (session t x is).bytes e

-- what is installed is the best of what the packets kept make ready
pub installed_is_best : (s : Session) (budget : ℕ) (ps : List SymbolPacket) → IsSession s → AreOf s ps
    → IsBestOf (ready_objects s (gathered (kept budget ps))) (installed_after budget ps)
installed_is_best s budget ps session are =
    subst (λ (objects : Objects). IsBestOf objects (installed_after budget ps))
    (λ i t. whole_is_sent s budget ps t session are i) (best_is_best (held_after budget ps))

-- ---- what the calls of an installation leave on the shelf

puts_number : (files : List FileOf) (s : Shelved) → (after (map put_of files) s).number ≡ s.number
puts_number [] s = refl
puts_number (f ∷ files) s = puts_number files (with_file s f.toi f.body)

puts_leave : (files : List FileOf) (s : Shelved) → (after (map put_of files) s).files ≡ s.files ++ map (λ f. (f.toi, f.body)) files
puts_leave [] s = sym (append-nil s.files)
puts_leave (f ∷ files) s =
    puts_leave files (with_file s f.toi f.body) ∙ append_assoc s.files ((f.toi, f.body) ∷ []) (map (λ f. (f.toi, f.body)) files)

installs : (best : Option Shown) (old new : Shelved) → new ≡ after (installing best) old → IsInstalled best old new
installs None old new is = is
installs (Some i) old new is =
    let begun = after_call (Begin i.number) old in
    let part = after (map put_of i.files) begun in
    ap (λ s. s.done) (is ∙ after-append (map put_of i.files) (Finish (manifest i) ∷ []) begun)
    ∙ ap (λ n. Some (record { number = n; files = part.files; manifest = manifest i })) (puts_number i.files begun)
    ∙ ap (λ fs. Some (record { number = i.number; files = fs; manifest = manifest i })) (puts_leave i.files begun)

-- ---- the end

-- a status of a list that was read to its end comes of no other ending
ends : (ending : Ending) (n : ℕ) (best : Option Shown) (status : Status) → is_at_end status ≡ true → status ≡ base_status ending n best → ending ≡ End
ends End n best status at_end is = refl
ends (Torn at) n best status at_end is = absurd (let both : true ≡ false = sym at_end ∙ ap is_at_end is in cc)
ends TooMany n best status at_end is = absurd (let both : true ≡ false = sym at_end ∙ ap is_at_end is in cc)

-- ---- the headline

are_bytes : (s : Session) (tsi : ℕ) (ds : List (List ℕ)) → All (IsDatagramOf s tsi) ds → All AreBytes ds
are_bytes s tsi [] all = All-nil AreBytes
are_bytes s tsi (d ∷ ds) all =
    All-cons AreBytes d ds (All-head (IsDatagramOf s tsi) d ds all).bytes (are_bytes s tsi ds (All-tail (IsDatagramOf s tsi) d ds all))

pub headline : (s : Session) (c : Settings) (left : List (List ℕ)) (torn : Option ℕ) (status : Status) (shelf shelf' : Shelved) (text text' : List ℕ)
    → IsSession s → All (IsDatagramOf s c.tsi) (datagrams_taken c left) → is_at_end status ≡ true → status ≡ (received c left torn).status
    → shelf' ≡ after (received c left torn).calls shelf → text' ≡ text ++ (received c left torn).text
    → InstallsBest s c (datagrams_taken c left) shelf shelf' text text'
unfolding received
headline s c left torn status shelf shelf' text text' session datagrams at_end is shelved written =
    let ps = packets_taken c left in
    let best = installed_after c.budget ps in
    let over = drops c.budget ps in
    let end = ends (ending_of c.bound left torn) over best status at_end is in
    let o : received c left torn ≡ outcome_of c left End over best = ap (λ e. outcome_of c left e over best) end in
    record {
      packets = ps;
      spelled = are_spelled c.tsi (datagrams_taken c left) (are_bytes s c.tsi (datagrams_taken c left) datagrams);
      best = best;
      greatest = (best_where_instance (ready_objects s (gathered (kept c.budget ps))) best (ready_bytes s (gathered (kept c.budget ps)) session)).0
          (installed_is_best s c.budget ps session (packets_are s c.tsi (datagrams_taken c left) datagrams));
      installed = installs best shelf shelf' (shelved ∙ ap (λ (u : Outcome). after u.calls shelf) o);
      reported = written ∙ ap (λ (u : Outcome). text ++ u.text) o
          ∙ ap (λ l. text ++ (best_lines best ++ l)) (append-nil (over_line over));
    }
