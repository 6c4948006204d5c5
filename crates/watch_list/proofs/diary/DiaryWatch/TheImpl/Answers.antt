use Rattle.std.proofs.Common.{length, ap, ◌∙◌, rules}
use Rattle.edge_io.specs.Faults.{one_more}
use Rattle.watch_list.proofs.Diaries.{where_ok, fails_later}
use Rattle.watch_list.proofs.diary.DiaryWatch.TheImpl.Goals as goal

pub hear-tells : goal.hear-tells
hear-tells x c =
    let old = c.args.self.now in
    let new = c.new.self.now in
    record {
      heard = where_ok c.result
          (λ kept number quiet. record {
            number = number;
            told = λ told. told;
            events = λ told. kept;
            faults = quiet;
            refuses = λ before event count refuses. (
              fails_later old.calls new.calls old.events.len new.events.len old.events.cap new.events.cap (length before)
                  c.ensures.next number c.ensures.capacity refuses.0,
              refuses.1 ∙ ap one_more quiet,
            );
          })
          c.ensures.«record» c.ensures.number c.ensures.quiet;
      told = λ told. told;
      same_number = search rules;
      same_events = search rules;
      full = search rules;
      rose = search rules;
      grows = search rules;
      refuses = search rules;
    }
