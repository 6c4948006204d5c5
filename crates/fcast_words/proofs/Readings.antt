-- What `clap` answers for words of the right shape, by the map that they are.
use Rattle.std.proofs.Common.{◌≡◌, ◌≢◌, ◌⊎◌, Bool, true, false, cond, List, [], map, Some, None, inl, inr, refl, sym, ap, subst, ◌∙◌}
use Rattle.std.proofs.lemmas.Bool.{and_parts}
use Rattle.clap.specs.Matches.{found_of}
use Rattle.clap.specs.Walk.{first_of, nothing_held, rows_after}
use Rattle.clap.specs.Simple.{App, HasMatchesOf, built, is_simple, matches_of}
use Rattle.clap.specs.Kinds.{IsAmong}
use Rattle.clap.specs.Faults.{fault_of, is_free_app, is_simple_and_free, level_fault}
use Rattle.clap.specs.declared.error.kind.ErrorKind.{ErrorKind}
use Rattle.clap.specs.declared.error.kind.ErrorKind.TheVariants.{OutOfMemory}
use Rattle.clap.specs.declared.parser.matches.ArgMatches.{ArgMatches}
use Rattle.clap.proofs.WalkLemmas.{first_value-rows}
use Rattle.fcast_words.specs.Pairs.{Text, Pairs, map_of}
use Rattle.fcast_words.specs.Shape.{has_shape}
use Rattle.fcast_words.specs.Inner.Parser.{dashed, options_app}
use Rattle.fcast_words.specs.Inner.Matches.{HasValues}
use Rattle.fcast_words.proofs.Parsers.{app_fault, app_free, app_matches, built_option, built_shape}
use Rattle.fcast_words.proofs.Walks.{are_known, first_given, level_faults, level_rows, verdict}
use Rattle.fcast_words.proofs.Bare.{IsBare, bare, dash, given_dashed}

module _ (name : Text) (names words : List Text) (app : App) (is : app ≡ options_app name names) where
  free : is_simple_and_free app ≡ true
  free = ap is_simple_and_free is ∙ app_free name names

  faults : (bs : Pairs) → IsBare words bs → fault_of app words ≡ verdict (are_known names bs)
  faults bs b = ap (λ a. fault_of a words) is ∙ app_fault name names words
      ∙ ap (λ ws. level_fault (built_shape name names) [] nothing_held ws false []) b.spelled ∙ level_faults name names bs b.pairs b.new

  -- without a fault the words are a map, and its values were found
  pub values_read : (m : ArgMatches) → has_shape words ≡ true
      → (is_simple_and_free app ≡ true → fault_of app words ≡ []) → HasMatchesOf app words m → HasValues names words m
  values_read m shape none matches =
      let b = bare words shape in
      by b.0 b.1 (are_known names b.0) refl (sym (faults b.0 b.1) ∙ none free)
    where
      by : (bs : Pairs) → IsBare words bs → (known : Bool) → are_known names bs ≡ known → verdict known ≡ [] → HasValues names words m
      by bs b false e none = cc
      by bs b true e none =
          let simple = (and_parts (is_simple app) (is_free_app (built app)) free).0 in
          let rows = (matches simple).0 ∙ ap (λ a. matches_of a words) is ∙ app_matches name names words ∙ ap (λ ws. rows_after (map built_option names) [] ws) b.spelled
          ∙ level_rows name names bs b.pairs b.new e in (
            map dash bs,
            b.mapped names ∙ ap (λ known. cond known (Some (map dash bs)) None) e,
            λ n. first_value-rows (found_of m) n ∙ ap (first_of n) rows ∙ first_given n bs ∙ sym (given_dashed n bs),
          )

  -- with a fault they are none
  pub no_values : (k : ErrorKind) → has_shape words ≡ true → (is_simple_and_free app ≡ true → (k ≡ OutOfMemory) ⊎ IsAmong k (fault_of app words)) → k ≢ OutOfMemory
      → map_of (map dashed names) words ≡ None
  no_values k shape fails other =
      let b = bare words shape in
      by b.0 b.1 (are_known names b.0) refl (elim (fails free) [ inl memory ↦ absurd (other memory) | inr among ↦ subst (IsAmong k) (faults b.0 b.1) among ])
    where
      by : (bs : Pairs) → IsBare words bs → (known : Bool) → are_known names bs ≡ known → IsAmong k (verdict known) → map_of (map dashed names) words ≡ None
      by bs b true e among = absurd among
      by bs b false e among = b.mapped names ∙ ap (λ known. cond known (Some (map dash bs)) None) e
