use Rattle.std.proofs.Common.{◌≡◌, ◌∙◌, sym, ap, Some, None}
use Rattle.cmdcodec.specs.declared.command.Command.TheVariants.{TlbiNhVa, TlbiEl2Va, TlbiS2Ipa}
use Rattle.std.proofs.lemmas.Option.{IfSome_then}
use Rattle.caches.specs.Covers.{covers}
use Rattle.caches.specs.OnePages.{is_on}
use Rattle.caches.specs.declared.key.Stage.TheVariants.{One}
use Rattle.caches.specs.declared.one_page.Holder.TheVariants.{Guest, Host}
use Rattle.caches.proofs.OnePages.{guest_page, guest_covers, host_page, host_covers, stage_2_page, stage_2_covers}
use Rattle.caches.proofs.one_page.OnePage.of.Goals as goal

pub returns-in-TlbiNhVa-clause-covered : goal.returns-in-TlbiNhVa-clause-covered
returns-in-TlbiNhVa-clause-covered c =
    let d = c.in-TlbiNhVa in
    let made : guest_page d.vmid d.asid d.page d.leaf ≡ record { page = c.get-in-TlbiNhVa.result; own = c.guest-own.result; shared = Some c.guest-shared.result } = λ i. record {
      page = sym c.get-in-TlbiNhVa.ensures.value i;
      own = sym (c.guest-own.ensures ∙ ap (λ a. Guest d.vmid (One (Some a))) c.get.ensures.value) i;
      shared = Some (sym c.guest-shared.ensures i);
    } in
    IfSome_then c.at.result c.at.ensures.one (λ one h t block. ap (λ x. covers x t) (d.is ∙ ap (TlbiNhVa d.vmid d.asid d.leaf d.page) h.0) ∙ guest_covers d.vmid d.asid d.page d.leaf t block ∙ ap (λ o. is_on o t) (made ∙ sym h.1))

pub returns-in-TlbiEl2Va-clause-covered : goal.returns-in-TlbiEl2Va-clause-covered
returns-in-TlbiEl2Va-clause-covered c =
    let d = c.in-TlbiEl2Va in
    let made : host_page d.asid d.page d.leaf ≡ record { page = c.get-in-TlbiEl2Va-2.result; own = Host (Some c.get-in-TlbiEl2Va.result); shared = Some (Host None) } = λ i. record {
      page = sym c.get-in-TlbiEl2Va-2.ensures.value i;
      own = Host (Some (sym c.get-in-TlbiEl2Va.ensures.value i));
      shared = Some (Host None);
    } in
    IfSome_then c.at-in-TlbiEl2Va.result c.at-in-TlbiEl2Va.ensures.one (λ one h t block. ap (λ x. covers x t) (d.is ∙ ap (TlbiEl2Va d.asid d.leaf d.page) h.0) ∙ host_covers d.asid d.page d.leaf t block ∙ ap (λ o. is_on o t) (made ∙ sym h.1))

pub returns-in-TlbiS2Ipa-clause-covered : goal.returns-in-TlbiS2Ipa-clause-covered
returns-in-TlbiS2Ipa-clause-covered c =
    let d = c.in-TlbiS2Ipa in
    let made : stage_2_page d.vmid d.page d.leaf ≡ record { page = c.get-in-TlbiS2Ipa.result; own = c.guest.result; shared = None } = λ i. record {
      page = sym c.get-in-TlbiS2Ipa.ensures.value i;
      own = sym c.guest.ensures i;
      shared = None;
    } in
    IfSome_then c.at-in-TlbiS2Ipa.result c.at-in-TlbiS2Ipa.ensures.one (λ one h t block. ap (λ x. covers x t) (d.is ∙ ap (TlbiS2Ipa d.vmid d.leaf d.page) h.0) ∙ stage_2_covers d.vmid d.page d.leaf t block ∙ ap (λ o. is_on o t) (made ∙ sym h.1))
