-- The calls that install an instance, one after the other.
use Rattle.std.proofs.Common.{◌≡◌, ℕ, ◌+◌, ◌<◌, List, [], ◌∷◌, ◌++◌, ◌∙◌, refl, sym, ap, arith, map, take, length, get_or, length-append, add-one}
use Rattle.std.proofs.lemmas.List.{map_more, take-map, take-append-le}
use Rattle.std.proofs.Math.Seq.{take-append_seam, take-length}
use Rattle.edge_io.specs.Shelved.{Shelved, with_file}
use Rattle.edge_io.specs.ShelfCalls.{Call, after_call, after}
use Rattle.carousel_cid.specs.declared.file_of.FileOf.{FileOf}
use Rattle.run_receive.specs.Outcome.{put_of}
use Rattle.run_base.specs.Parts.{AcceptsPart, AcceptsFewer}

pub after-append : (cs ds : List Call) (s : Shelved) → after (cs ++ ds) s ≡ after ds (after cs s)
after-append [] ds s = refl
after-append (c ∷ cs) ds s = after-append cs ds (after_call c s)

-- one file more is put
pub put_more : (files : List FileOf) (i : ℕ) (f : FileOf) (s : Shelved) → i < length files → get_or files i f ≡ f
    → after (take (i + 1) (map put_of files)) s ≡ with_file (after (take i (map put_of files)) s) f.toi f.body
put_more files i f s less is =
    ap (λ cs. after cs s) (take-map put_of (i + 1) files ∙ map_more put_of files i f less
    ∙ ap (λ x. map put_of (take i files) ++ put_of x ∷ []) is ∙ ap (λ cs. cs ++ put_of f ∷ []) (sym (take-map put_of i files)))
    ∙ after-append (take i (map put_of files)) (put_of f ∷ []) s

-- what a part of later calls accepts is a part of all of them
pub fewer_later : (c : Call) (cs ds : List Call) (old new : Shelved) → AcceptsFewer cs (after_call c old) new → AcceptsFewer (c ∷ (cs ++ ds)) old new
fewer_later c cs ds old new part = record {
  accepted = part.accepted + 1;
  fewer = omega (arith, part.fewer, length-append cs ds);
  holds = part.holds ∙ ap (λ es. after es (after_call c old)) (sym (take-append-le part.accepted cs ds (omega (arith, part.fewer))))
      ∙ ap (λ n. after (take n (c ∷ (cs ++ ds))) old) (sym (add-one part.accepted));
}

-- all but the last were accepted
pub fewer_last : (c : Call) (cs : List Call) (d : Call) (old new : Shelved) → new ≡ after cs (after_call c old) → AcceptsFewer (c ∷ (cs ++ d ∷ [])) old new
fewer_last c cs d old new is = record {
  accepted = length cs + 1;
  fewer = omega (arith, length-append cs (d ∷ []));
  holds = is ∙ ap (λ es. after es (after_call c old)) (sym (take-append_seam cs (d ∷ [])))
      ∙ ap (λ n. after (take n (c ∷ (cs ++ d ∷ []))) old) (sym (add-one (length cs)));
}

-- all were accepted
pub all_accepted : (c : Call) (cs : List Call) (d : Call) (old between new : Shelved)
    → between ≡ after cs (after_call c old) → new ≡ after_call d between → new ≡ after (c ∷ (cs ++ d ∷ [])) old
all_accepted c cs d old between new before now = now ∙ ap (after_call d) before ∙ sym (after-append cs (d ∷ []) (after_call c old))

-- all of the calls are a part of them
pub part_all : (calls : List Call) (old new : Shelved) → new ≡ after calls old → AcceptsPart calls old new
part_all calls old new is = record { accepted = length calls; holds = is ∙ ap (λ cs. after cs old) (sym (take-length calls)) }
