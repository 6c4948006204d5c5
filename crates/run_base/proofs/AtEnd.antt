-- A number that says that the list was read to its end is that of such a status.
use Rattle.std.proofs.Common.{◌≡◌, ℕ, Bool, true, false, ◌||◌, refl, sym, ap, ◌∙◌, inl, inr}
use Rattle.std.specs.Prelude.{◌==◌, Ok, Err}
use Rattle.run_base.specs.declared.status.Status.{Status}
use Rattle.run_base.specs.declared.status.Status.TheVariants.{Done, NoCommand, NothingInstalled, Torn, OverBudget, Refused, Missing, TooMany}
use Rattle.run_base.specs.declared.fault.Fault.TheVariants.{Datagrams, Text, Emit, Shelf, Files, Memory}
use Rattle.run_base.specs.Statuses.{Answer, number, is_at_end, ReadsToEnd}

abbrev says_end : ℕ → Bool
says_end n = (n == 0) || ((n == 2) || (n == 7))

said : (result : ℕ) → ReadsToEnd result → says_end result ≡ true
said result (inl e) = ap says_end e
said result (inr (inl e)) = ap says_end e
said result (inr (inr e)) = ap says_end e

pub record IsAtEnd (answer : Answer) : Type 0 where
  pub status : Status
  pub is : answer ≡ Ok status
  pub at_end : is_at_end status ≡ true

of_answer : (answer : Answer) → says_end (number answer) ≡ true → IsAtEnd answer
of_answer (Ok Done) says = record { status = Done; is = refl; at_end = refl }
of_answer (Ok NothingInstalled) says = record { status = NothingInstalled; is = refl; at_end = refl }
of_answer (Ok OverBudget) says = record { status = OverBudget; is = refl; at_end = refl }
of_answer (Ok NoCommand) says = absurd (let both : false ≡ true = says in cc)
of_answer (Ok Torn) says = absurd (let both : false ≡ true = says in cc)
of_answer (Ok Refused) says = absurd (let both : false ≡ true = says in cc)
of_answer (Ok Missing) says = absurd (let both : false ≡ true = says in cc)
of_answer (Ok TooMany) says = absurd (let both : false ≡ true = says in cc)
of_answer (Err Datagrams) says = absurd (let both : false ≡ true = says in cc)
of_answer (Err Text) says = absurd (let both : false ≡ true = says in cc)
of_answer (Err Emit) says = absurd (let both : false ≡ true = says in cc)
of_answer (Err Shelf) says = absurd (let both : false ≡ true = says in cc)
of_answer (Err Files) says = absurd (let both : false ≡ true = says in cc)
of_answer (Err Memory) says = absurd (let both : false ≡ true = says in cc)

pub at_end_of : (answer : Answer) (result : ℕ) → result ≡ number answer → ReadsToEnd result → IsAtEnd answer
at_end_of answer result is reads = of_answer answer (sym (ap says_end is) ∙ said result reads)
