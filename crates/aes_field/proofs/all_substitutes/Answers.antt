use Rattle.aes_field.specs.Field.{xtime, field_product, ◌•◌, raised, inverse, affine_bit, gathered, affine, sub_byte}
use Rattle.aes_field.proofs.Table.{follows}
use Rattle.aes_field.proofs.Substitutes.{tabled}
use Rattle.aes_field.proofs.all_substitutes.Goals as goal

pub returns : goal.returns
unfolding follows xtime field_product ◌•◌ raised inverse affine_bit gathered affine sub_byte
returns c = tabled _ 0 tt
