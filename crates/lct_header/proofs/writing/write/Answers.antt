use Rattle.std.proofs.Common.{◌≡◌, ◌++◌, List, ℕ, sym, subst, arith}
use Rattle.std.proofs.lemmas.Grind.{common_steps}
use Rattle.lct_header.specs.Header.{IsHeader}
use Rattle.lct_header.specs.HeaderView.{StartsWithHeader}
use Rattle.lct_header.specs.Spelling.{written_length, spelling}
use Rattle.lct_header.proofs.Numbers.{fits_bytes}
use Rattle.lct_header.proofs.Spelled.{written_is_read}
use Rattle.lct_header.proofs.writing.write.Goals as goal

pub push_number-requires-2-clause-fits : goal.push_number-requires-2-clause-fits
push_number-requires-2-clause-fits c = fits_bytes c.header.inside.toi c.header.inside.toi_bits c.header.invariant.toi_halves c.header.invariant.toi

pub returns-clause-read_again : goal.returns-clause-read_again
unfolding spelling
returns-clause-read_again c = λ rest.
    let h = c.args.header.now in
    let area = c.args.area.now in
    let e : c.extend_from_slice-3.new.self.items ≡ spelling h area = grind (arith, common_steps) in
    let is = written_is_read h area rest (subst IsHeader c.header.view_is c.header.invariant) c.requires.extensions c.requires.room in
    subst (λ (xs : List ℕ). StartsWithHeader (xs ++ rest) (record { header = h; length = written_length h area; area = area })) (sym e) (rest, is)
