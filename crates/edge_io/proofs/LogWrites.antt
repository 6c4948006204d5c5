-- A log that is being written: what each write adds.
use Rattle.std.proofs.Common.{◌≡◌, ℕ, ◌<◌, ◌≤◌, ◌^◌, Bool, true, false, List, [], ◌∷◌, ◌++◌, flat_map, length, All, sym, ◌∙◌, ap, subst, arith, append_assoc}
use Rattle.std.proofs.lemmas.Grind.{flat_map-append}
use Rattle.std.proofs.lemmas.List.{append-nil}
use Rattle.edge_io.specs.Log.{magic, item, AreShort, IsLog, datagrams_of}
use Rattle.edge_io.specs.LogWriting.{magic_due, IsInOrder, sent_on}
use Rattle.edge_io.proofs.LogLaws.{log_datagrams}
use Rattle.edge_io.proofs.Texts.{datagrams_short, at_most}

short_more : (ds : List (List ℕ)) (d : List ℕ) → AreShort ds → length d < 2 ^ 16 → AreShort (ds ++ d ∷ [])
short_more [] d s h = (h, tt)
short_more (e ∷ ds) d s h = (s.0, short_more ds d s.1 h)

-- a log with one item more is the log of one datagram more
log_more : (text : List ℕ) (ds : List (List ℕ)) (d : List ℕ) → IsLog text ds → length d ≤ 65535 → IsLog (text ++ item d) (ds ++ d ∷ [])
log_more text ds d l h = record {
  short = short_more ds d l.short (omega (arith, h));
  is = ap (λ t. t ++ item d) l.is ∙ append_assoc magic (flat_map item ds) (item d)
      ∙ ap (λ t. magic ++ (flat_map item ds ++ t)) (sym (append-nil (item d)))
      ∙ ap (λ t. magic ++ t) (sym (flat_map-append item ds (d ∷ [])));
}

-- with the magic that is due, what was written is the log of what was sent
with_magic : (begun : Bool) (text : List ℕ) → IsInOrder begun text → IsLog (text ++ magic_due begun) (sent_on begun text)
with_magic false text o = record { short = tt; is = ap (λ t. t ++ magic) o }
with_magic true text o = subst (IsLog (text ++ [])) (sym (log_datagrams text o.0 o.1)) (subst (λ t. IsLog t o.0) (sym (append-nil text)) o.1)

-- a connect makes the text a log with no datagram more
connect_log : (begun : Bool) (text text' : List ℕ) → IsInOrder begun text → text' ≡ text ++ magic_due begun → IsLog text' (sent_on begun text)
connect_log begun text text' o e = subst (λ t. IsLog t (sent_on begun text)) (sym e) (with_magic begun text o)

pub connect_sends_none : (begun : Bool) (text text' : List ℕ) → IsInOrder begun text → text' ≡ text ++ magic_due begun → sent_on true text' ≡ sent_on begun text
connect_sends_none begun text text' o e = log_datagrams text' (sent_on begun text) (connect_log begun text text' o e)

-- a send makes it a log with one datagram more
send_log : (begun : Bool) (text text' d : List ℕ) → IsInOrder begun text → length d ≤ 65535 → text' ≡ text ++ (magic_due begun ++ item d)
    → IsLog text' (sent_on begun text ++ d ∷ [])
send_log begun text text' d o h e =
    subst (λ t. IsLog t (sent_on begun text ++ d ∷ [])) (sym (e ∙ sym (append_assoc text (magic_due begun) (item d))))
    (log_more (text ++ magic_due begun) (sent_on begun text) d (with_magic begun text o) h)

pub send_in_order : (begun : Bool) (text text' d : List ℕ) → IsInOrder begun text → length d ≤ 65535 → text' ≡ text ++ (magic_due begun ++ item d) → IsInOrder true text'
send_in_order begun text text' d o h e = (sent_on begun text ++ d ∷ [], send_log begun text text' d o h e)

pub send_adds_one : (begun : Bool) (text text' d : List ℕ) → IsInOrder begun text → length d ≤ 65535 → text' ≡ text ++ (magic_due begun ++ item d)
    → sent_on true text' ≡ sent_on begun text ++ d ∷ []
send_adds_one begun text text' d o h e = log_datagrams text' (sent_on begun text ++ d ∷ []) (send_log begun text text' d o h e)

-- what was sent is short
pub sent_short : (begun : Bool) (text : List ℕ) → All (λ d. length d ≤ 65535) (sent_on begun text)
sent_short false text = at_most [] tt
sent_short true text = at_most (datagrams_of text) (datagrams_short text)
