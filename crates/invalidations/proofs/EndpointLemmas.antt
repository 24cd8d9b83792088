-- The least block that holds two pages.
use Rattle.std.proofs.Common.{◌≡◌, ℕ, suc, ◌+◌, ◌-◌, ◌*◌, ◌/◌, ◌^◌, ◌<◌, ◌≤◌, ◌==◌, not, nat_lt, true, false, inl, inr, Some, None, ap, sym, subst, ◌∙◌, arith}
use Rattle.std.proofs.lemmas.Bool.{cases_lt, ltb-true, and_parts, and_from}
use Rattle.std.proofs.lemmas.Nat.{pow_pos, shl-shr, shr_split, mod_below, xor_shr, xor_lt, leading_length}
use Rattle.std.proofs.Math.Nat.{div-eq_of_lt, div-eq_of_lt-le, pow-suc, pow-le-pow_right}
use Rattle.std.specs.Int.{w64, leading_zeros}
use Rattle.std.specs.Int.Bits.{bit_xor, xor_assoc, xor_self, xor_zero_l, xor_zero_r}
use Rattle.cmdcodec.specs.declared.command.Command.{Command}
use Rattle.caches.specs.declared.tag.Tag.{Tag}
use Rattle.caches.specs.declared.tag.Tag.TheVariants.{Atc}
use Rattle.caches.specs.Blocks.{aligned, holds}
use Rattle.caches.specs.Covers.{covers}
use Rattle.invalidations.specs.declared.endpoint.Endpoint.{Endpoint}
use Rattle.invalidations.specs.declared.endpoint.Substreams.{Substreams}
use Rattle.invalidations.specs.declared.endpoint.Substreams.TheVariants.{All, One, Each}
use Rattle.invalidations.specs.Endpoints.{is_cached, of_substreams, endpoint_command, block_page, IsLeastPower, IsLeastBlock, ReachesEndpoint, has_substreams_of}
use Rattle.invalidations.proofs.Holding.{not_below, held_is_met, second_too}
use Rattle.smmu_features.specs.declared.smmu.Smmu.{Smmu}
use Rattle.invalidations.specs.Reaching.{is_served}

-- ---- Numbers without a differing bit are equal.

alike : (a b : ℕ) → bit_xor a b ≡ 0 → a ≡ b
alike a b none = sym (xor_zero_r a) ∙ ap (bit_xor a) (sym none) ∙ sym (xor_assoc a a b) ∙ ap (λ x. bit_xor x b) (xor_self a) ∙ xor_zero_l b

below_power : (x power : ℕ) → x / 2 ^ power ≡ 0 → x < 2 ^ power
below_power x power none =
    let split = shr_split x power in
    let rest = mod_below x (2 ^ power) (pow_pos power) in
    let high = ap (λ q. q * 2 ^ power) none in
    omega (arith, split, rest, high)

power_least : (x m other : ℕ) → 2 ^ m ≤ 2 * x + 1 → x < 2 ^ other → m ≤ other
power_least x m other long short =
    elim (cases_lt other m) [
      | inl longer ↦ absurd (
          let twice = pow-suc 2 other in
          let power : 2 ^ suc other ≤ 2 ^ m = pow-le-pow_right (omega arith) longer in
          omega (arith, twice, power, long, short))
      | inr fits ↦ fits
    ]

pub least_of_length : (first last m : ℕ) → bit_xor first last < 2 ^ m → 2 ^ m ≤ 2 * bit_xor first last + 1 → IsLeastPower first last m
least_of_length first last m short long = record {
  shared = alike (first / 2 ^ m) (last / 2 ^ m) (sym (xor_shr first last m) ∙ div-eq_of_lt short);
  least = λ other same.
      let none : bit_xor first last / 2 ^ other ≡ 0 = xor_shr first last other ∙ ap (λ n. bit_xor n (last / 2 ^ other)) same ∙ xor_self (last / 2 ^ other) in
      power_least (bit_xor first last) m other long (below_power (bit_xor first last) other none);
}

pub least_of_leading : (first last : ℕ) → first < 2 ^ 52 → last < 2 ^ 52
    → IsLeastPower first last (64 - leading_zeros w64 (bit_xor first last)) × (64 - leading_zeros w64 (bit_xor first last) ≤ 52)
least_of_leading first last one other =
    let x = bit_xor first last in
    let small = xor_lt 52 first last one other in
    let length = leading_length 64 x (omega (arith, small)) in
    let m = length.0 in
    let is : 64 - leading_zeros w64 x ≡ m = omega (arith, length.1) in (
      subst (IsLeastPower first last) (sym is) (least_of_length first last m length.2 length.3),
      (let most = power_least x m 52 length.3 small in omega (arith, is, most)),
    )

-- ---- The block.

pub below_page : (page power : ℕ) → page / 2 ^ power * 2 ^ power ≤ page
below_page page power = let split = shr_split page power in omega (arith, split)

in_block : (number power page : ℕ) → holds (aligned number (2 ^ power)) page ≡ true → page / 2 ^ power ≡ number / 2 ^ power
in_block number power page held =
    let begin = number / 2 ^ power * 2 ^ power in
    let both : (not (nat_lt page begin) ≡ true) × (nat_lt page (begin + 2 ^ power) ≡ true) = and_parts (not (nat_lt page begin)) (nat_lt page (begin + 2 ^ power)) held in
    let from = not_below page begin both.0 in
    let to = ltb-true page (begin + 2 ^ power) both.1 in
    div-eq_of_lt-le (2 ^ power) from (let k = number / 2 ^ power in omega (arith, to))

block_of : (first last power : ℕ) → power ≤ 52 → IsLeastPower first last power → IsLeastBlock first last (block_page first power) power
block_of first last power small least =
    let split = shr_split last power in
    let rest = mod_below last (2 ^ power) (pow_pos power) in
    let same = ap (λ q. q * 2 ^ power) least.shared in
    let again = shr_split (block_page first power) power in
    let quotient = ap (λ q. q * 2 ^ power) (shl-shr (first / 2 ^ power) power) in
    record {
      small = small;
      begins = omega (arith, again, quotient);
      from = below_page first power;
      to = omega (arith, split, rest, same);
      least = λ number other one two. least.least other (in_block number other first one ∙ sym (in_block number other last two));
    }

block_covers : (sid : ℕ) (substreams : Substreams) (size page other : ℕ) (tag : Tag) → page / 2 ^ size * 2 ^ size ≡ page → page ≤ other → other < page + 2 ^ size
    → is_cached (record { sid = sid; substreams = substreams }) other tag ≡ true → covers (of_substreams sid substreams size page) tag ≡ true
block_covers sid All size page other (Atc s ss at span) is from to cached =
    second_too _ _ _ (λ held. held_is_met other at span (aligned page (2 ^ size)) held (omega (arith, is, from), omega (arith, is, to))) cached
block_covers sid (One ssid) size page other (Atc s (Some ss) at span) is from to cached =
    second_too _ _ _ (second_too _ _ _ (λ held. held_is_met other at span (aligned page (2 ^ size)) held (omega (arith, is, from), omega (arith, is, to)))) cached
block_covers sid (One ssid) size page other (Atc s None at span) is from to cached = absurd (let wrong : false ≡ true = (and_parts (s == sid) false cached).1 in cc)
block_covers sid Each size page other (Atc s (Some ss) at span) is from to cached =
    second_too _ _ _ (λ held. held_is_met other at span (aligned page (2 ^ size)) held (omega (arith, is, from), omega (arith, is, to))) cached
block_covers sid Each size page other (Atc s None at span) is from to cached = absurd (let wrong : false ≡ true = (and_parts (s == sid) false cached).1 in cc)
block_covers sid substreams size page other not_of_endpoint is from to cached = absurd cc

pub reaches : (endpoint : Endpoint) (first last power : ℕ) (command : Command) → first ≤ last → power ≤ 52 → IsLeastPower first last power
    → command ≡ endpoint_command endpoint power (block_page first power) → ReachesEndpoint endpoint first last command
reaches endpoint first last power command below small least is =
    let block = block_of first last power small least in
    let page = block_page first power in
    let whole : page / 2 ^ power * 2 ^ power ≡ page = ap (λ q. q * 2 ^ power) (shl-shr (first / 2 ^ power) power) in
    record {
      size = power;
      page = page;
      is = is;
      block = block;
      covered = λ other from to tag cached.
          ap (λ c. covers c tag) is ∙ block_covers endpoint.sid endpoint.substreams power page other tag whole
          (omega (arith, block.from, from)) (omega (arith, block.to, to)) cached;
    }

pub last_page_below : (address : ℕ) → address < 2 ^ 64 → address / 4096 < 2 ^ 52
last_page_below address below = omega (arith, below)

-- ---- The SMMU has the command.

substreams_served : (smmu : Smmu) (sid : ℕ) (substreams : Substreams) (size page : ℕ) → smmu.ats ≡ true → has_substreams_of smmu substreams ≡ true
    → is_served smmu (of_substreams sid substreams size page) ≡ true
substreams_served smmu sid All size page ats has = and_from smmu.ats _ ats has
substreams_served smmu sid (One ssid) size page ats has = and_from smmu.ats _ ats has
substreams_served smmu sid Each size page ats has = and_from smmu.ats _ ats has

pub endpoint_served : (smmu : Smmu) (endpoint : Endpoint) (first last : ℕ) (command : Command) → ReachesEndpoint endpoint first last command → smmu.ats ≡ true
    → has_substreams_of smmu endpoint.substreams ≡ true → is_served smmu command ≡ true
endpoint_served smmu endpoint first last command reaches ats has =
    subst (λ c. is_served smmu c ≡ true) (sym reaches.is) (substreams_served smmu endpoint.sid endpoint.substreams reaches.size reaches.page ats has)
