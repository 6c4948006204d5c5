-- Values are sound exactly where they have no fault.
use Rattle.std.proofs.Common.{◌≡◌, ◌^◌, ◌<◌, false, eqb, ltb, [], ◌∷◌, None, refl, arith}
use Rattle.std.proofs.lemmas.Bool.{ne_eqb, eqb-false, le-ltb, ltb-false}
use Rattle.wire_bytes.specs.FirstFault.{fault_when}
use Rattle.wire_bytes.proofs.Public.{none_hold, cause_fails}
use Rattle.oti_blocks.specs.Partition.{ObjectInformation, IsSound}
use Rattle.oti_blocks.specs.Information.{block_count}
use Rattle.oti_blocks.specs.Faults.{information_fault}
use Rattle.oti_blocks.specs.declared.fault.OtiFault.TheVariants.{ZeroSymbol, ZeroBlock, MaxN, ShortObject, TooManyBlocks}

-- numbers that the fields of a header can have
pub record HasWidths (o : ObjectInformation) : Type 0 where
  pub length : o.length < 2 ^ 48
  pub symbol : o.symbol < 2 ^ 16
  pub max_n : o.max_n < 2 ^ 8

pub sound_from_no_fault : (o : ObjectInformation) → HasWidths o → information_fault o ≡ None → IsSound o
sound_from_no_fault o widths e =
    let few = fault_when (ltb (2 ^ 24) (block_count o.length o.symbol o.max_block)) TooManyBlocks ∷ [] in
    let long = fault_when (ltb o.length 8) ShortObject ∷ few in
    let within = fault_when (ltb o.max_n o.max_block) MaxN ∷ long in
    let block = fault_when (eqb o.max_block 0) ZeroBlock ∷ within in
    let t1 = none_hold (fault_when (eqb o.symbol 0) ZeroSymbol) block e in
    let t2 = none_hold (fault_when (eqb o.max_block 0) ZeroBlock) within t1.1 in
    let t3 = none_hold (fault_when (ltb o.max_n o.max_block) MaxN) long t2.1 in
    let t4 = none_hold (fault_when (ltb o.length 8) ShortObject) few t3.1 in
    let t5 = none_hold (fault_when (ltb (2 ^ 24) (block_count o.length o.symbol o.max_block)) TooManyBlocks) [] t4.1 in
    let symbol = eqb-false o.symbol 0 (cause_fails _ _ t1.0) in
    let some_block = eqb-false o.max_block 0 (cause_fails _ _ t2.0) in
    record {
      long = ltb-false _ _ (cause_fails _ _ t4.0);
      length_fits = widths.length;
      some_symbol = omega arith;
      symbol_fits = widths.symbol;
      some_block = omega arith;
      block_within = ltb-false _ _ (cause_fails _ _ t3.0);
      max_n_fits = widths.max_n;
      few_blocks = ltb-false _ _ (cause_fails _ _ t5.0);
    }

pub no_fault_from_sound : (o : ObjectInformation) → IsSound o → information_fault o ≡ None
no_fault_from_sound o sound =
    let symbol : eqb o.symbol 0 ≡ false = ne_eqb o.symbol 0 (λ e. omega (arith, e, sound.some_symbol)) in
    let some_block : eqb o.max_block 0 ≡ false = ne_eqb o.max_block 0 (λ e. omega (arith, e, sound.some_block)) in
    rw (symbol, some_block, le-ltb o.max_n o.max_block sound.block_within, le-ltb o.length 8 sound.long, le-ltb (2 ^ 24) (block_count o.length o.symbol o.max_block) sound.few_blocks) refl
