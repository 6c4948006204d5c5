use Rattle.std.proofs.Common.{arith, inl, inr}
use Rattle.wire_bytes.proofs.Public.{bytes_by_place}
use Rattle.lct_header.proofs.Found.{wrong_from, fault_from, view_from}
use Rattle.lct_header.proofs.Views.{view_is}
use Rattle.lct_header.proofs.reading.read_view.Goals as goal
use Rattle.lct_header.proofs.reading.read_view.Goals.{then-length-fixed-via-then-length-fixed, then-length-fixed-via-else-length-fixed+then-bytes-length}

pub returns-then-length-fixed-clause-refused : goal.returns-then-length-fixed-clause-refused
returns-then-length-fixed-clause-refused c =
    wrong_from c.args.bytes.now c.read-word.result c.cci_length-tsi_start.result c.tsi_length.result c.toi_length.result
    c.length-length.result (bytes_by_place c.args.bytes.now (λ i. omega (arith, c.type_inv.bytes i)))
    (record {
      long = omega arith;
      first = omega arith;
      word_is = c.read-word.ensures;
      cci_is =
          c.cci_length-tsi_start.ensures;
      tsi_is = c.tsi_length.ensures;
      toi_is = c.toi_length.ensures;
      n_is = c.length-length.ensures;
    })
    (elim c.then-length-fixed.branch [
      | then-length-fixed-via-then-length-fixed w ↦ inl w.if-length-fixed.true
      | then-length-fixed-via-else-length-fixed+then-bytes-length w ↦ inr w.if-bytes-length.true
    ])

pub returns-in-Some-clause-refused : goal.returns-in-Some-clause-refused
returns-in-Some-clause-refused c =
    fault_from c.args.bytes.now c.read-word.result c.cci_length-tsi_start.result c.tsi_length.result c.toi_length.result
    c.length-length.result c.in-Some.fault (bytes_by_place c.args.bytes.now (λ i. omega (arith, c.type_inv.bytes i)))
    (record {
      long = omega arith;
      first = omega arith;
      word_is = c.read-word.ensures;
      cci_is =
          c.cci_length-tsi_start.ensures;
      tsi_is = c.tsi_length.ensures;
      toi_is = c.toi_length.ensures;
      n_is = c.length-length.ensures;
    })
    (omega arith) (omega arith) c.in-Some.ensures

pub returns-clause-found : goal.returns-clause-found
returns-clause-found c =
    rw c.header_of-header.ensures (view_from c.args.bytes.now c.read-word.result c.cci_length-tsi_start.result c.tsi_length.result
    c.toi_length.result c.length-length.result (bytes_by_place c.args.bytes.now (λ i. omega (arith, c.type_inv.bytes i)))
    (record {
      long = omega arith;
      first = omega arith;
      word_is = c.read-word.ensures;
      cci_is =
          c.cci_length-tsi_start.ensures;
      tsi_is = c.tsi_length.ensures;
      toi_is = c.toi_length.ensures;
      n_is = c.length-length.ensures;
    })
    (omega arith) (omega arith) c.in_default.ensures)

pub invariant_of-result : goal.invariant_of-result
invariant_of-result c =
    let starts = view_from c.args.bytes.now c.read-word.result c.cci_length-tsi_start.result c.tsi_length.result
    c.toi_length.result c.length-length.result (bytes_by_place c.args.bytes.now (λ i. omega (arith, c.type_inv.bytes i)))
    (record {
      long = omega arith;
      first = omega arith;
      word_is = c.read-word.ensures;
      cci_is =
          c.cci_length-tsi_start.ensures;
      tsi_is = c.tsi_length.ensures;
      toi_is = c.toi_length.ensures;
      n_is = c.length-length.ensures;
    })
    (omega arith) (omega arith) c.in_default.ensures in
    rw c.header_of-header.ensures (view_is c.args.bytes.now _ starts.0 starts.1)
