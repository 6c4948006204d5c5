use Rattle.std.proofs.Common.{rules, ◌<◌, length}
use Rattle.carousel_cid.proofs.Causes.{no_location_fault, location_kind, on_err_given}
use Rattle.carousel_cid.proofs.reading.file.Goals as goal

pub returns-clause-kind : goal.returns-clause-kind
returns-clause-kind c =
    let location = c.location_in-location.result.now in
    let some : 0 < length location = search rules in
    location_kind c.args.fields.now location c.args.body.now _ c.located_file.result c.location_in-location.ensures some c.value.ensures c.located_file.ensures

pub returns-clause-memory : goal.returns-clause-memory
returns-clause-memory c =
    let location = c.location_in-location.result.now in
    let some : 0 < length location = search rules in
    on_err_given c.located_file.result (no_location_fault c.args.fields.now location c.location_in-location.ensures some)
