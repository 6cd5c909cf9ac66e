use Rattle.hs_typing.proofs.Secrets.{secret_tuple}
use Rattle.hs_typing.proofs.table.+secret.Goals as goal

pub is_secret_in-returns-in-Tuple : goal.is_secret_in-returns-in-Tuple
is_secret_in-returns-in-Tuple t c = secret_tuple c.args.secrets.now c.args.ty.now c.in-Tuple.parts c.is_any_secret_in.result c.in-Tuple.is c.is_any_secret_in.ensures
