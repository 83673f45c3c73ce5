-- Facts of the tables of both kinds, computed: no code is 0, each has at most two digits, each of a head's is one of the whole message.
-- Assumes nothing.
use mathlib.Core.Path.{◌≡◌, refl}
use mathlib.Core.Bool.{Bool, true, false, cond}
use mathlib.Core.List.{List}
use Prim.Native.Nat.{ℕ}
use Rattle.findings.specs.Faults.{is_whole, is_code, is_short, codes_pass}
use Rattle.atutal.specs.Tables as atutal
use Rattle.beszed.specs.Tables as beszed
use Rattle.kinds.specs.Kinds.{ATUTAL, BESZED, is_beszed, Tables, tables}

module _ (e : ℕ) (is_listed : ℕ → Bool) where
  -- what holds of both kinds' tables holds of any kind's
  pub of_both : (P : Tables → Type 0) → P (tables BESZED e is_listed) → P (tables ATUTAL e is_listed) → (kind : ℕ) → P (tables kind e is_listed)
  unfolding tables
  of_both P b a kind = go (is_beszed kind)
    where
      go : (t : Bool)
          → P (cond t
          (record { head = beszed.head_rules e is_listed; item = beszed.item_rules e is_listed })
          (record { head = atutal.head_rules e is_listed; item = atutal.item_rules is_listed }))
      go true = b
      go false = a

  -- no rule of the tables has code 0, whatever is found
  pub no_code_0 : (kind k : ℕ) (known r : List ℕ)
      → (codes_pass is_code ((tables kind e is_listed).head known r) ≡ true) × (codes_pass is_code ((tables kind e is_listed).item k r) ≡ true)
  unfolding tables atutal.head_rules atutal.item_rules beszed.head_rules beszed.item_rules
  no_code_0 kind k known r =
      of_both (λ t. (codes_pass is_code (t.head known r) ≡ true) × (codes_pass is_code (t.item k r) ≡ true)) (refl, refl) (refl, refl) kind

  -- nor one of three digits
  pub two_digits : (kind k : ℕ) (known r : List ℕ)
      → (codes_pass is_short ((tables kind e is_listed).head known r) ≡ true) × (codes_pass is_short ((tables kind e is_listed).item k r) ≡ true)
  unfolding tables atutal.head_rules atutal.item_rules beszed.head_rules beszed.item_rules
  two_digits kind k known r =
      of_both (λ t. (codes_pass is_short (t.head known r) ≡ true) × (codes_pass is_short (t.item k r) ≡ true)) (refl, refl) (refl, refl) kind

  -- each code of a head is one of the whole message
  pub head_whole : (kind : ℕ) (known r : List ℕ) → codes_pass is_whole ((tables kind e is_listed).head known r) ≡ true
  unfolding tables atutal.head_rules beszed.head_rules
  head_whole kind known r = of_both (λ t. codes_pass is_whole (t.head known r) ≡ true) refl refl kind
