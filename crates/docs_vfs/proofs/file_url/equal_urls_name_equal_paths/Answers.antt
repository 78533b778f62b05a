use Rattle.docs_vfs.proofs.EqualUrls.{equal_paths}
use Rattle.docs_vfs.proofs.file_url.equal_urls_name_equal_paths.Goals as goal

pub returns : goal.returns
returns c = record { law = equal_paths }
