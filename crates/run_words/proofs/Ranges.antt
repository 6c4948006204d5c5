-- The numbers of a command are in the ranges of its options.
use Rattle.std.proofs.Common.{◌≡◌, ℕ, ◌≤◌, Bool, true, false, ◌&&◌, List, [], ◌∷◌, refl, subst, arith, Option, Some, None}
use Rattle.std.specs.Prelude.{if◌then◌else◌, option_and_then, option_map, unwrap_or}
use Rattle.std.specs.Option.{ForSome}
use Rattle.std.specs.Str.Parse.{digits_value}
use Rattle.std.proofs.lemmas.Bool.Decides.{nat_tests}
use Rattle.edge_io.specs.declared.place.Place.{Place}
use Rattle.fcast_words.specs.Numbers.{is_numeral, is_in, number_in, number_or}
use Rattle.fcast_words.specs.Pairs.{Pairs, given, map_of}
use Rattle.fcast_words.specs.Addresses.{address_of}
use Rattle.fcast_words.specs.Table as table
use Rattle.fcast_words.specs.Table.{command_named, options_of}
use Rattle.fcast_words.specs.Words.{value_of, place_of, port_of, count_of, source_of, command_with, command_of}
use Rattle.fcast_words.specs.declared.command.Command.{Command}
use Rattle.fcast_words.specs.declared.command.Command.TheVariants as commands
use Rattle.fcast_words.specs.declared.command_word.CommandWord.{CommandWord}
use Rattle.fcast_words.specs.declared.command_word.CommandWord.TheVariants as word
use Rattle.run_words.specs.Commands as specs
use Rattle.run_words.specs.Commands.{task_of, sending_of}
use Rattle.run_words.specs.declared.task.Task.TheVariants as tasks
use Rattle.run_words.specs.Ranges.{AreReceiving, AreSending, HasNumbers, IsFit, IsPort, IfListening}
use Rattle.run_base.specs.Ranges.{IsCount}

abbrev IfNumbers : Option Command → Type 0
IfNumbers None = Unit {0}
IfNumbers (Some c) = HasNumbers c

then_has : {A : Type 0} (f : A → Option Command) (o : Option A) → ((x : A) → o ≡ Some x → IfNumbers (f x)) → IfNumbers (option_and_then f o)
then_has f None all = tt
then_has f (Some x) all = all x refl

map_has : {A : Type 0} (f : A → Command) (o : Option A) → ((x : A) → o ≡ Some x → HasNumbers (f x)) → IfNumbers (option_map f o)
map_has f None all = tt
map_has f (Some x) all = all x refl

-- ---- the number of an option is in its range

chosen : (b : Bool) (n v : ℕ) → (if b then Some n else None) ≡ Some v → (b ≡ true) × (n ≡ v)
chosen true n v e = (refl, cc)
chosen false n v e = cc

in_range : (numeral : Bool) (least greatest n : ℕ) → (numeral && is_in least greatest n) ≡ true → (least ≤ n) × (n ≤ greatest)
in_range numeral least greatest n h = (grind (arith, nat_tests), grind (arith, nat_tests))

number_fits : (least greatest : ℕ) (text : List ℕ) (v : ℕ) → number_in least greatest text ≡ Some v → (least ≤ v) × (v ≤ greatest)
number_fits least greatest text v e =
    let c = chosen (is_numeral text && is_in least greatest (digits_value 10 text)) (digits_value 10 text) v e in
    let r = in_range (is_numeral text) least greatest (digits_value 10 text) c.0 in
    (omega (arith, r.0, c.1), omega (arith, r.1, c.1))

number_or_fits : (least greatest default : ℕ) (text : Option (List ℕ)) (v : ℕ) → least ≤ default
    → default ≤ greatest → number_or least greatest (Some default) text ≡ Some v → (least ≤ v) × (v ≤ greatest)
number_or_fits least greatest default None v low high e = let same : default ≡ v = cc in (omega (arith, same, low), omega (arith, same, high))
number_or_fits least greatest default (Some text) v low high e = number_fits least greatest text v e

-- the same of an option that has to be given
number_or_none : (least greatest : ℕ) (text : Option (List ℕ)) (v : ℕ) → number_or least greatest None text ≡ Some v → (least ≤ v) × (v ≤ greatest)
number_or_none least greatest None v e = cc
number_or_none least greatest (Some text) v e = number_fits least greatest text v e

-- ---- each command

receiving_has : (ps : Pairs) (tsi budget : ℕ) → value_of table.tsi ps ≡ Some tsi → value_of table.budget ps ≡ Some budget → AreReceiving tsi budget
receiving_has ps tsi budget is_tsi is_budget =
    let t = number_or_fits 0 281474976710655 1 (given table.tsi.word ps) tsi (omega arith) (omega arith) is_tsi in
    let b = number_or_fits 4096 1073741824 67108864 (given table.budget.word ps) budget (omega arith) (omega arith) is_budget in
    record { tsi_to = omega (arith, t.1); least = b.0; most = omega (arith, b.1) }

-- a count of datagrams, which is 4,294,967,295 where none is given or has to be given
most_has : (ps : Pairs) (most : ℕ) → value_of table.most ps ≡ Some most → IsCount most
most_has ps most is = let m = number_or_fits 1 4294967295 4294967295 (given table.most.word ps) most (omega arith) (omega arith) is in omega (arith, m.1)

recv_has : (ps : Pairs) → IfNumbers (command_with word.Recv ps)
recv_has ps =
    then_has _ (value_of table.tsi ps) (λ tsi is_tsi. then_has _ (value_of table.budget ps) (λ budget is_budget.
    then_has _ (option_and_then address_of (given table.addr ps)) (λ addr _. then_has _ (value_of table.port ps) (λ port is_port.
    map_has _ (value_of table.count ps) (λ count is_count.
    let p = number_or_none 1 65535 (given table.port.word ps) port is_port in
    let c = number_or_none 1 4294967295 (given table.count.word ps) count is_count in
    (receiving_has ps tsi budget is_tsi is_budget, omega (arith, p.1), omega (arith, c.1)))))))

-- the port of a place that is given
of_address : (addr : Option (List ℕ)) (port : Option ℕ) (place : Option (List ℕ) × Option ℕ)
    → option_and_then (λ a. option_map (λ p. (Some a, Some p)) port) addr ≡ Some place → ((p : ℕ) → port ≡ Some p → IsPort p) → ForSome place.1 IsPort
of_address None port place is fits = cc
of_address (Some a) None place is fits = cc
of_address (Some a) (Some p) place is fits = λ q given. fits q (let same : (Some a, Some p) ≡ place = cc in let named : Some p ≡ place.1 = cc in cc)

port_fits : (addr port : Option (List ℕ)) (place : Option (List ℕ) × Option ℕ) → place_of addr port ≡ Some place → ForSome place.1 IsPort
port_fits None None place is = λ q given. let same : (None, None) ≡ place = cc in cc
port_fits (Some a) (Some p) place is = of_address (address_of a) (port_of p) place is (λ q given. let f = number_fits 1 65535 p q given in omega (arith, f.1))
port_fits None (Some p) place is = cc
port_fits (Some a) None place is = cc

-- the port and the count of a source that is given
of_source : (addr : Option (List ℕ)) (port count : Option ℕ) (source : Option (List ℕ) × Option ℕ × Option ℕ)
    → option_and_then (λ a. option_and_then (λ p. option_map (λ c. (Some a, Some p, Some c)) count) port) addr ≡ Some source
    → ((p : ℕ) → port ≡ Some p → IsPort p) → ((c : ℕ) → count ≡ Some c → IsCount c) → ForSome source.1 IsPort × ForSome source.2 IsCount
of_source None port count source is ports counts = cc
of_source (Some a) None count source is ports counts = cc
of_source (Some a) (Some p) None source is ports counts = cc
of_source (Some a) (Some p) (Some c) source is ports counts =
    let same : (Some a, Some p, Some c) ≡ source = cc in
    subst (λ (s : Option (List ℕ) × Option ℕ × Option ℕ). ForSome s.1 IsPort × ForSome s.2 IsCount) same (ports, counts)

source_fits : (addr port count : Option (List ℕ)) (source : Option (List ℕ) × Option ℕ × Option ℕ) → source_of addr port count ≡ Some source
    → ForSome source.1 IsPort × ForSome source.2 IsCount
source_fits None None None source is =
    let same : (None, None, None) ≡ source = cc in
    subst (λ (s : Option (List ℕ) × Option ℕ × Option ℕ). ForSome s.1 IsPort × ForSome s.2 IsCount) same ((λ q given. cc), (λ q given. cc))
source_fits (Some a) (Some p) (Some c) source is = of_source (address_of a) (port_of p) (count_of c) source is
    (λ q given. let f = number_fits 1 65535 p q given in omega (arith, f.1))
    (λ q given. let f = number_fits 1 4294967295 c q given in omega (arith, f.1))
source_fits None None (Some c) source is = cc
source_fits None (Some p) count source is = cc
source_fits (Some a) None count source is = cc
source_fits (Some a) (Some p) None source is = cc

send_has : (ps : Pairs) → IfNumbers (command_with word.Send ps)
send_has ps =
    then_has _ (given table.catalog ps) (λ catalog _. then_has _ (place_of (given table.addr ps) (given table.port.word ps)) (λ place is_place.
    then_has _ (value_of table.symbol ps) (λ symbol is_symbol. then_has _ (value_of table.block ps) (λ block is_block.
    then_has _ (value_of table.maxn ps) (λ maxn is_maxn. then_has _ (value_of table.cycles ps) (λ cycles is_cycles.
    map_has _ (value_of table.sent_tsi ps) (λ tsi is_tsi.
    let s = number_or_fits 8 65475 1024 (given table.symbol.word ps) symbol (omega arith) (omega arith) is_symbol in
    let b = number_or_fits 1 255 64 (given table.block.word ps) block (omega arith) (omega arith) is_block in
    let n = number_or_fits 1 255 128 (given table.maxn.word ps) maxn (omega arith) (omega arith) is_maxn in
    let c = number_or_fits 1 1000 1 (given table.cycles.word ps) cycles (omega arith) (omega arith) is_cycles in
    let t = number_or_fits 0 4294967295 1 (given table.sent_tsi.word ps) tsi (omega arith) (omega arith) is_tsi in (
      record { symbol_from = s.0; symbol_to = s.1; block_from = b.0; block_to = b.1; maxn_to = n.1; cycles_from = c.0; cycles_to = c.1; tsi_to = omega (arith, t.1) },
      port_fits (given table.addr ps) (given table.port.word ps) place is_place,
    ))))))))

listen_has : (ps : Pairs) → IfNumbers (command_with word.Listen ps)
listen_has ps =
    then_has _ (value_of table.tsi ps) (λ tsi is_tsi. then_has _ (value_of table.budget ps) (λ budget is_budget.
    then_has _ (value_of table.most ps) (λ most is_most.
    then_has _ (source_of (given table.addr ps) (given table.port.word ps) (given table.count.word ps)) (λ source is_source.
    map_has _ (value_of table.readers ps) (λ readers is_readers.
    let s = source_fits (given table.addr ps) (given table.port.word ps) (given table.count.word ps) source is_source in
    let r = number_or_fits 1 16 1 (given table.readers.word ps) readers (omega arith) (omega arith) is_readers in
    (receiving_has ps tsi budget is_tsi is_budget, most_has ps most is_most, s.0, s.1, (r.0, r.1)))))))

command_has : (word : CommandWord) (ps : Pairs) → IfNumbers (command_with word ps)
command_has word.Replay ps =
    then_has _ (value_of table.tsi ps) (λ tsi is_tsi. then_has _ (value_of table.budget ps) (λ budget is_budget.
    map_has _ (value_of table.most ps) (λ most is_most. (receiving_has ps tsi budget is_tsi is_budget, most_has ps most is_most))))
command_has word.Recv ps = recv_has ps
command_has word.Send ps = send_has ps
command_has word.Dump ps = map_has _ (value_of table.most ps) (λ most _. tt)
command_has word.Drill ps = map_has _ (value_of table.start ps) (λ start _. tt)
command_has word.Listen ps = listen_has ps

numbers : (words : List (List ℕ)) → IfNumbers (command_of words)
numbers [] = tt
numbers (name ∷ words) = then_has _ (command_named name) (λ word _. then_has _ (map_of (options_of word) words) (λ ps _. command_has word ps))

-- those of the command that words are
pub has_numbers : (words : List (List ℕ)) (c : Command) → command_of words ≡ Some c → HasNumbers c
has_numbers words c is = subst IfNumbers is (numbers words)

-- ---- what is to be done

of_place : (catalog : List ℕ) (symbol block maxn cycles tsi : ℕ) (place : Option Place) → AreSending symbol block maxn cycles tsi
    → IsFit (unwrap_or (option_map (sending_of catalog symbol block maxn cycles tsi) place) tasks.Usage)
of_place catalog symbol block maxn cycles tsi None are = tt
of_place catalog symbol block maxn cycles tsi (Some place) are = record {
  symbol_from = are.symbol_from;
  symbol_to = are.symbol_to;
  block = are.block_from;
  cycles = are.cycles_from;
}

pub fit_of : (command : Command) → HasNumbers command → IsFit (task_of command)
fit_of (commands.Replay tsi budget most) has = record { tsi = has.0.tsi_to; least = has.0.least; most = has.0.most; limit = has.1 }
fit_of (commands.Recv tsi budget addr port count) has = record { tsi = has.0.tsi_to; least = has.0.least; most = has.0.most; limit = has.2 }
fit_of (commands.Send catalog addr port symbol block maxn cycles tsi) has =
    of_place catalog symbol block maxn cycles tsi (specs.place_of addr port) has.0
fit_of (commands.Dump most) has = tt
fit_of (commands.Drill start) has = tt
fit_of (commands.Listen tsi budget most addr port count readers) has = tt

-- ---- listen

from_source : (tsi budget most readers : ℕ) (addr : Option (List ℕ)) (port count : Option ℕ)
    → HasNumbers (commands.Listen tsi budget most addr port count readers)
    → IfListening (specs.listening_in (commands.Listen tsi budget most addr port count readers))
from_source tsi budget most readers None None None has =
    (record { tsi = has.0.tsi_to; least = has.0.least; most = has.0.most; limit = has.1 }, has.4)
from_source tsi budget most readers (Some addr) (Some port) (Some count) has =
    (record { tsi = has.0.tsi_to; least = has.0.least; most = has.0.most; limit = has.3 count refl }, has.4)
from_source tsi budget most readers None None (Some count) has = tt
from_source tsi budget most readers None (Some port) count has = tt
from_source tsi budget most readers (Some addr) None count has = tt
from_source tsi budget most readers (Some addr) (Some port) None has = tt

of_listening : (o : Option Command) → IfNumbers o → IfListening (option_and_then specs.listening_in o)
of_listening None has = tt
of_listening (Some (commands.Replay tsi budget most)) has = tt
of_listening (Some (commands.Recv tsi budget addr port count)) has = tt
of_listening (Some (commands.Send catalog addr port symbol block maxn cycles tsi)) has = tt
of_listening (Some (commands.Dump most)) has = tt
of_listening (Some (commands.Drill start)) has = tt
of_listening (Some (commands.Listen tsi budget most addr port count readers)) has = from_source tsi budget most readers addr port count has

-- what a listening is told
pub listening_in_range : (words : List (List ℕ)) → IfListening (specs.listening_of words)
listening_in_range words = of_listening (command_of words) (numbers words)
