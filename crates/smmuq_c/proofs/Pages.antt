-- Fields that say a command by page say a page.
use Rattle.std.proofs.Common.{◌≡◌, ℕ, ◌^◌, ◌==◌, ◌||◌, Bool, true, false, sym, ap, subst, ◌∙◌, refl, Option, None}
use Rattle.std.specs.Prelude.{if◌then◌else◌}
use Rattle.cmdcodec.specs.Opcodes.{is_kept}
use Rattle.cmdcodec.specs.declared.command.Command.{Command}
use Rattle.cmdcodec.specs.declared.command.Command.TheVariants.{CfgiSte, CfgiSteRange, CfgiCd, CfgiCdAll, TlbiNhAll, TlbiNhAsid, TlbiNhVa, TlbiNhVaa, TlbiEl2All, TlbiEl2Asid, TlbiEl2Va, TlbiEl2Vaa, TlbiS12Vmall, TlbiS2Ipa, TlbiNsnhAll, AtcInv, Kept, CmdSync}
use Rattle.smmuq_c.specs.declared.fields.Fields.{Fields}
use Rattle.smmuq_c.specs.Commands.{SaysPage, SaysCommand, IsCommandOf}

abbrev pub is_by_page : ℕ → Bool
is_by_page n = n == 0x12 || n == 0x13 || n == 0x22 || n == 0x23 || n == 0x2a || n == 0x40

abbrev pub pages_of : ℕ → ℕ
pages_of n = if n == 0x2a then 2 ^ 40 else 2 ^ 52

abbrev pub SaysAPage : Fields → ℕ → Type 0
SaysAPage f n = (page : ℕ) × SaysPage f (pages_of n) page

-- an opcode isn't both of these
other : (n : ℕ) {m : ℕ} {A : Type 0} → is_by_page n ≡ true → m ≡ n → is_by_page m ≡ false → A
other n by is not_by = let e = ap is_by_page is in absurd (cc)

kept : (n : ℕ) {m : ℕ} {A : Type 0} → is_kept n ≡ false → m ≡ n → is_kept m ≡ true → A
kept n not_kept is by = let e = ap is_kept is in absurd (cc)

pub says_a_page : (f : Fields) (n : ℕ) → f.opcode ≡ n → is_by_page n ≡ true → is_kept n ≡ false → (command : Command) → SaysCommand f command → SaysAPage f n
says_a_page f n is by not_kept (CfgiSte sid leaf) s = other n by (sym s.0 ∙ is) refl
says_a_page f n is by not_kept (CfgiSteRange sid range) s = other n by (sym s.0 ∙ is) refl
says_a_page f n is by not_kept (CfgiCd sid ssid leaf) s = other n by (sym s.0 ∙ is) refl
says_a_page f n is by not_kept (CfgiCdAll sid) s = other n by (sym s.0 ∙ is) refl
says_a_page f n is by not_kept (TlbiNhAll vmid) s = other n by (sym s.0 ∙ is) refl
says_a_page f n is by not_kept (TlbiNhAsid vmid asid) s = other n by (sym s.0 ∙ is) refl
says_a_page f n is by not_kept (TlbiNhVa vmid asid leaf page reach) s = subst (λ (m : ℕ). SaysAPage f m) (sym s.0 ∙ is) (page, s.4)
says_a_page f n is by not_kept (TlbiNhVaa vmid leaf page reach) s = subst (λ (m : ℕ). SaysAPage f m) (sym s.0 ∙ is) (page, s.3)
says_a_page f n is by not_kept TlbiEl2All s = other n by (sym s ∙ is) refl
says_a_page f n is by not_kept (TlbiEl2Asid asid) s = other n by (sym s.0 ∙ is) refl
says_a_page f n is by not_kept (TlbiEl2Va asid leaf page reach) s = subst (λ (m : ℕ). SaysAPage f m) (sym s.0 ∙ is) (page, s.3)
says_a_page f n is by not_kept (TlbiEl2Vaa leaf page reach) s = subst (λ (m : ℕ). SaysAPage f m) (sym s.0 ∙ is) (page, s.2)
says_a_page f n is by not_kept (TlbiS12Vmall vmid) s = other n by (sym s.0 ∙ is) refl
says_a_page f n is by not_kept (TlbiS2Ipa vmid leaf page reach) s = subst (λ (m : ℕ). SaysAPage f m) (sym s.0 ∙ is) (page, s.3)
says_a_page f n is by not_kept TlbiNsnhAll s = other n by (sym s ∙ is) refl
says_a_page f n is by not_kept (AtcInv sid ssv ssid global size page) s = subst (λ (m : ℕ). SaysAPage f m) (sym s.0 ∙ is) (page, s.7)
says_a_page f n is by not_kept (Kept raw) s = kept n not_kept (sym s.0 ∙ is) s.3.0
says_a_page f n is by not_kept (CmdSync cs msh attr «data» address) s = other n by (sym s.0 ∙ is) refl

pub no_page : (f : Fields) (n : ℕ) (found : Option Command) → found ≡ None → f.opcode ≡ n → is_by_page n ≡ true → is_kept n ≡ false
    → ((page : ℕ) → ¬ SaysPage f (pages_of n) page) → IsCommandOf f found
no_page f n found is opcode by not_kept none =
    subst (λ (r : Option Command). IsCommandOf f r) (sym is)
    (λ command says. let p = says_a_page f n opcode by not_kept command says in none p.0 p.1)
