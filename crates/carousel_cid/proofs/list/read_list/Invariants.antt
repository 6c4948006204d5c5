-- the walk from here on finds what the whole walk finds, and what is kept, with what is to come, is the whole list
use Rattle.std.proofs.Common.{◌≡◌, ◌+◌, ◌-◌, ◌≤◌, [], length, min}
use Rattle.std.specs.Prelude.{IfSome}
use Rattle.std.specs.List.{AllByRecursion}
use Rattle.carousel_cid.specs.IdentifierList.{identifiers_of}
use Rattle.carousel_cid.specs.Listing.{bad_place, count_in, identifiers_in}
use Rattle.carousel_cid.specs.Inner.Runs.{IsRun, AreSeen}
use Rattle.carousel_cid.specs.Inner.Walks.{texts_from, added_all}
use Rattle.carousel_cid.proofs.list.read_list.Given as goal

abbrev pub invariant-loop-at : goal.invariant-loop-at
invariant-loop-at l = record {
  bad : bad_place l.at (texts_from l.at l.list) ≡ bad_place 0 (texts_from 0 l.list);
  count : min (l.count + count_in (texts_from l.at l.list)) 4097 ≡ min (count_in (texts_from 0 l.list)) 4097;
  most : l.count ≤ 4097;
  all : IfSome l.kept (λ k. added_all (identifiers_of k.runs.items) (identifiers_in (texts_from l.at l.list)) ≡ added_all [] (identifiers_in (texts_from 0 l.list)));
  runs : IfSome l.kept (λ k. AllByRecursion IsRun k.runs.items);
  seen : IfSome l.kept (λ k. AreSeen k.seen (identifiers_of k.runs.items));
  place : l.at ≤ length l.list + 1;
}

abbrev pub decreases-loop-at : goal.decreases-loop-at
decreases-loop-at l = length l.list + 1 - l.at
