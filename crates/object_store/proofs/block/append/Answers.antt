use Rattle.std.proofs.Common.{ap, ◌∙◌, List, ℕ, ◌≡◌, ◌+◌, ◌++◌, ◌-◌, length, take, replicate, arith}
use Rattle.object_store.proofs.Blocks.{filled_up}
use Rattle.object_store.proofs.block.append.Goals as goal

pub returns-clause-rows : goal.returns-clause-rows
returns-clause-rows c =
    let rows = c.args.rows.now.items in
    let symbol = c.args.symbol.now in
    let extended = c.extend_from_slice.new.self in
    let n = c.len.result + c.args.size in
    let reserved : c.reserve-2.new.self.items ≡ rows = c.in_ok-reserve-2.ensures.items in
    let front : extended.items ≡ c.reserve-2.new.self.items ++ symbol = c.in_ok-extend_from_slice.ensures.items in
    let whole : c.resize.new.self.items ≡ take n extended.items ++ replicate (n - extended.len) 0 = c.in_ok-resize.ensures.items in
    let many = c.reserve-2.new.self.ok.0 in
    let before : length c.reserve-2.new.self.items ≡ length rows = ap length reserved in
    let count : n ≡ length rows + c.args.size = omega (arith, c.len.ensures, many, before) in
    let longer : extended.len ≡ length rows + length symbol = omega (arith, c.in_ok-extend_from_slice.ensures.len, many, before) in
    whole ∙ ap (λ (xs : List ℕ). take n xs ++ replicate (n - extended.len) 0) (front ∙ ap (λ (xs : List ℕ). xs ++ symbol) reserved)
    ∙ filled_up rows symbol c.args.size n extended.len c.requires.symbol count longer
