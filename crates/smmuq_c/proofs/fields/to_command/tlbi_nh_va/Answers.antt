use Rattle.std.proofs.Common.{refl}
use Rattle.smmuq_c.proofs.Pages.{no_page}
use Rattle.smmuq_c.proofs.fields.to_command.tlbi_nh_va.Goals as goal

pub returns-in_err-page : goal.returns-in_err-page
returns-in_err-page c = no_page c.args.fields.now 0x12 _ c.from_residual-in_err-page.ensures c.requires refl refl c.in_err-page.ensures
